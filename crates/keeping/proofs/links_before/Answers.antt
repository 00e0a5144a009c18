use mathlib.Core.Path.{sym, ap, ◌∙◌}
use mathlib.Core.Bool.{Bool}
use native.Mathlib.Omega.{arith}
use Rattle.kit.specs.Loops.{count}
use Rattle.kit.proofs.Laws.{left_none}
use Rattle.kit.proofs.Steps.{count_hit, count_miss}
use Rattle.handle.specs.declared.Edge.{Edge}
use Rattle.handle.specs.Edge.{edge_before}
use Rattle.store.specs.Graph.{ends, link_layout}
use Rattle.store.specs.declared.Link.{Link}
use Rattle.store.proofs.Fields.{left-link}
use Rattle.keeping.proofs.links_before.Goals as goal
use Rattle.keeping.proofs.links_before.Goals.{then-before, else-before}

pub loop-i-preserved : goal.loop-i-preserved
loop-i-preserved c =
    let a = c.args in
    let p : Link → Bool = λ s. edge_before (ends s) a.e in
    let left = left-link a.total c.loop-i.i a.links.now (omega arith) in
    let known = ap (λ (x : Edge). edge_before x a.e) (sym c.ends_at-f.ensures) ∙ sym c.before-in-loop-i.ensures in
    elim c.if-before.branch [
      | then-before w ↦ (omega (arith, w.n-is), omega (arith, w.n-is, c.loop-i.invariant.1, count_hit p left (known ∙ w.if-before.true)))
      | else-before w ↦ (omega (arith, w.n-is), omega (arith, w.n-is, c.loop-i.invariant.1, count_miss p left (known ∙ w.if-before.false)))
    ]

pub returns : goal.returns
returns c =
    let a = c.args in
    let p : Link → Bool = λ s. edge_before (ends s) a.e in
    omega (arith, c.loop-i.invariant.1, ap (count p) (left_none link_layout a.total c.loop-i.i a.links.now (omega arith)))
