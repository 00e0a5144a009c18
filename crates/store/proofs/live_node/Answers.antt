use Prim.Native.Nat.{◌+◌}
use mathlib.Core.Bool.{false}
use mathlib.Core.Path.{◌≡◌, sym, ap, ◌∙◌}
use native.Mathlib.Omega.{arith}
use borrow.Author.Tests.{eq-eqb, ne_eqb}
use lib.ListN.{drop}
use Rattle.kit.proofs.Bools.{and_both}
use Rattle.store.specs.Views.{live_here, live_node}
use Rattle.kit.proofs.Steps.{any_hit, any_miss, any_end}
use Rattle.store.proofs.Fields.{node_at, left-node}
use Rattle.store.specs.Graph.{node_layout, nodes_of}
use Rattle.kit.proofs.Laws.{left_none}
use Rattle.store.proofs.live_node.Goals as goal
use Rattle.store.proofs.live_node.Goals.{else-r-id-via-then-r-id+else-r-eq0, else-r-id-via-else-r-id}

pub returns-then-r-eq0 : goal.returns-then-r-eq0
returns-then-r-eq0 c =
    let a = c.args in
    let i = c.loop-i.i in
    let e = ap (live_here a.id) (sym c.at-r.ensures) ∙ and_both _ _ (eq-eqb _ _ c.if-r-id.true) (eq-eqb _ _ c.if-r-eq0.true) in
    sym (any_hit (live_here a.id) (left-node a.count i a.nodes.now (omega arith)) e) ∙ c.loop-i.invariant

pub loop-i-preserved : goal.loop-i-preserved
loop-i-preserved c =
    let a = c.args in
    let i = c.loop-i.i in
    let pass : live_here a.id (node_at a.nodes.now i) ≡ false → live_node a.id (drop (i + 1) (nodes_of a.count a.nodes.now)) ≡ live_node a.id (nodes_of a.count a.nodes.now) =
    λ e. sym (any_miss (live_here a.id) (left-node a.count i a.nodes.now (omega arith)) e) ∙ c.loop-i.invariant
    in elim c.else-r-id.branch [
      | else-r-id-via-then-r-id+else-r-eq0 w ↦ pass (ap (live_here a.id) (sym c.at-r.ensures) ∙ rw (eq-eqb _ _ w.if-r-id.true) (ne_eqb _ _ w.if-r-eq0.false))
      | else-r-id-via-else-r-id w ↦ pass (ap (live_here a.id) (sym c.at-r.ensures) ∙ rw (ne_eqb _ _ w.if-r-id.false))
    ]

pub returns : goal.returns
returns c =
    let a = c.args in
    let i = c.loop-i.i in
    sym (any_end (live_here a.id) (left_none node_layout a.count i a.nodes.now (omega arith))) ∙ c.loop-i.invariant
