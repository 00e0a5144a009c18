use mathlib.Core.Path.{ap, ◌∙◌}
use native.Mathlib.Omega.{arith}
use Rattle.handle.specs.declared.Handle.{Handle}
use Rattle.handle.specs.Handle.{flip}
use Rattle.events.specs.declared.Step.{Step}
use Rattle.rewriting.proofs.Images.{forward-at, reverse-at}
use Rattle.rewriting.proofs.image_step.Goals as goal

pub returns-then-direction-eq-FORWARD : goal.returns-then-direction-eq-FORWARD
returns-then-direction-eq-FORWARD c =
    let a = c.args in
    ap (λ (s : Step). s.node.packed) c.at.ensures ∙ forward-at a.total a.steps.now a.first a.count (omega arith) a.direction a.j (omega arith) c.if-direction-eq-FORWARD.true

pub returns : goal.returns
returns c =
    let a = c.args in
    ap (λ (h : Handle). h.packed) c.flip.ensures ∙ ap (λ (s : Step). (flip s.node).packed) c.at-2.ensures ∙ reverse-at a.total a.steps.now a.first a.count (omega arith) a.direction a.j (omega arith) c.if-direction-eq-FORWARD.false
