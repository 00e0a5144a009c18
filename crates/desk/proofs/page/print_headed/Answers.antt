use lib.Seq.{length-take-le}
use lib.ListN.{length-drop, drop}
use Prim.Native.Nat.{◌-◌}
use Prim.Native.Nat.{◌-◌}
use lib.ListN.{length, drop}
use native.Mathlib.Omega.{arith}
use Rattle.writing.specs.Outcome.{writing}
use Rattle.texts.specs.PrintActiveSubgraph.{subgraph_outcome}
use Rattle.desk.specs.Page.{head_text, headed_outcome}
use Rattle.desk.proofs.Pages.{subgraph_inside, inside_of, back_inside, first-refused, next_refused, both-written}
use Rattle.desk.proofs.page.print_headed.Goals as goal

pub returns-then-h-ne0 : goal.returns-then-h-ne0
unfolding headed_outcome
returns-then-h-ne0 c =
    let a = c.args in
    record { out_after = first-refused (writing (head_text a.text.now) a.out.now) (subgraph_outcome a.nodes.now a.letters.now a.links.now a.d) _ _ c.print_head-h.ensures.out_after c.if-h-ne0.true; len_in_bounds = c.print_head-h.ensures.len_in_bounds }

pub returns-then-g-ne0 : goal.returns-then-g-ne0
unfolding headed_outcome
returns-then-g-ne0 c =
    let a = c.args in
    record { out_after = next_refused (writing (head_text a.text.now) a.out.now) (subgraph_outcome a.nodes.now a.letters.now a.links.now a.d) _ _ c.print_head-h.ensures.out_after c.if-h-ne0.false _ _ c.print_active_subgraph-g.ensures c.if-g-ne0.true; len_in_bounds = omega arith }

pub returns : goal.returns
unfolding headed_outcome
returns c =
    let a = c.args in
    let i = inside_of _ _ _ c.print_active_subgraph-g.ensures (subgraph_inside a.nodes.now a.letters.now a.links.now a.d _) in
    record { out_after = both-written (writing (head_text a.text.now) a.out.now) (subgraph_outcome a.nodes.now a.letters.now a.links.now a.d) _ _ c.print_head-h.ensures.out_after c.if-h-ne0.false _ _ c.print_active_subgraph-g.ensures c.if-g-ne0.false; len_in_bounds = back_inside c.print_head-h.result.len c.print_head-h.new.out c.print_active_subgraph-g.result.len c.print_active_subgraph-g.new.out c.print_head-h.ensures.len_in_bounds i }

pub overflow_add-result : goal.overflow_add-result
overflow_add-result c =
    let a = c.args in
    let i = inside_of _ _ _ c.print_active_subgraph-g.ensures (subgraph_inside a.nodes.now a.letters.now a.links.now a.d _) in
    let n = c.print_head-h.result.len in
    let xs = c.print_head-h.new.out in
    let d = length-drop n xs in
    let k = length-take-le (length xs - n) (drop n xs) (omega arith) in
    omega (arith, i, k, c.print_active_subgraph-g.auto.out, c.print_head-h.auto.out, c.print_head-h.ensures.len_in_bounds, c.well_formed.1.1.1.1.1.0.0)
