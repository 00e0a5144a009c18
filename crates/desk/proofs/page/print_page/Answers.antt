use lib.Seq.{length-take-le}
use lib.ListN.{length-drop, drop}
use Prim.Native.Nat.{◌-◌}
use Prim.Native.Nat.{◌-◌}
use lib.ListN.{length, drop}
use native.Mathlib.Omega.{arith}
use Rattle.texts.specs.ParseAndTransformPaths.{paths_outcome}
use Rattle.checking.specs.CheckTransform.{lent}
use Rattle.desk.specs.Page.{headed_outcome, page_outcome}
use Rattle.desk.proofs.Pages.{paths-inside, inside_of, back_inside, first-refused, next_refused, both-written}
use Rattle.desk.proofs.page.print_page.Goals as goal

pub returns-then-g-ne0 : goal.returns-then-g-ne0
unfolding page_outcome
returns-then-g-ne0 c =
    let a = c.args in
    record { out_after = first-refused (headed_outcome a.text.now (lent a.nodes.now a.letters.now a.links.now a.d) a.out.now) (paths_outcome a.text.now a.old_nodes.now a.letters.now a.old_links.now a.c a.rules.now a.steps.now a.u) _ _ c.print_headed-g.ensures.out_after c.if-g-ne0.true; len_in_bounds = c.print_headed-g.ensures.len_in_bounds }

pub returns-then-p-ne0 : goal.returns-then-p-ne0
unfolding page_outcome
returns-then-p-ne0 c =
    let a = c.args in
    record { out_after = next_refused (headed_outcome a.text.now (lent a.nodes.now a.letters.now a.links.now a.d) a.out.now) (paths_outcome a.text.now a.old_nodes.now a.letters.now a.old_links.now a.c a.rules.now a.steps.now a.u) _ _ c.print_headed-g.ensures.out_after c.if-g-ne0.false _ _ c.parse_and_transform_paths-p.ensures c.if-p-ne0.true; len_in_bounds = omega arith }

pub returns : goal.returns
unfolding page_outcome
returns c =
    let a = c.args in
    let i = inside_of _ _ _ c.parse_and_transform_paths-p.ensures (paths-inside a.old_nodes.now a.letters.now a.old_links.now a.c a.rules.now a.steps.now a.u _ a.text.now) in
    record { out_after = both-written (headed_outcome a.text.now (lent a.nodes.now a.letters.now a.links.now a.d) a.out.now) (paths_outcome a.text.now a.old_nodes.now a.letters.now a.old_links.now a.c a.rules.now a.steps.now a.u) _ _ c.print_headed-g.ensures.out_after c.if-g-ne0.false _ _ c.parse_and_transform_paths-p.ensures c.if-p-ne0.false; len_in_bounds = back_inside c.print_headed-g.result.len c.print_headed-g.new.out c.parse_and_transform_paths-p.result.len c.parse_and_transform_paths-p.new.out c.print_headed-g.ensures.len_in_bounds i }

pub overflow_add-result : goal.overflow_add-result
overflow_add-result c =
    let a = c.args in
    let i = inside_of _ _ _ c.parse_and_transform_paths-p.ensures (paths-inside a.old_nodes.now a.letters.now a.old_links.now a.c a.rules.now a.steps.now a.u _ a.text.now) in
    let n = c.print_headed-g.result.len in
    let xs = c.print_headed-g.new.out in
    let d = length-drop n xs in
    let k = length-take-le (length xs - n) (drop n xs) (omega arith) in
    omega (arith, i, k, c.parse_and_transform_paths-p.auto.out, c.print_headed-g.auto.out, c.print_headed-g.ensures.len_in_bounds, c.well_formed.1.1.1.1.1.1.1.1.1.1.1.0.0)
