use mathlib.Core.Path.{ap}
use native.Mathlib.Omega.{arith}
use Rattle.store.specs.Views.{largest}
use Rattle.store.proofs.Fields.{left-node}
use Rattle.store.specs.Graph.{node_layout}
use Rattle.store.specs.declared.Node.{Node}
use Rattle.kit.proofs.Laws.{left_none}
use Rattle.store.proofs.largest_id.Goals as goal
use Rattle.store.proofs.largest_id.Goals.{then-best-r, else-best-r}

pub loop-i-preserved : goal.loop-i-preserved
loop-i-preserved c =
    let a = c.args in
    let i = c.loop-i.i in
    let m = ap largest (left-node a.count i a.nodes.now (omega arith)) in
    elim c.if-best-r.branch [
      | then-best-r w ↦ omega (arith, w.if-best-r.true, w.best-is, m, ap (λ (r : Node). r.id) c.at-r.ensures)
      | else-best-r w ↦ omega (arith, w.if-best-r.false, w.best-is, m, ap (λ (r : Node). r.id) c.at-r.ensures)
    ]

pub returns : goal.returns
returns c =
    let a = c.args in
    let i = c.loop-i.i in
    omega (arith, ap largest (left_none node_layout a.count i a.nodes.now (omega arith)))
