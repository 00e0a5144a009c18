use mathlib.Core.Path.{refl, sym, ap, ◌∙◌}
use Rattle.events.specs.declared.Step.{Step}
use native.Mathlib.Omega.{arith}
use Rattle.scanning.proofs.RuleTurns.{sum_over, sum-next, sum_done}
use Rattle.scanning.proofs.lengths_sum.Goals as goal

pub loop-j-init : goal.loop-j-init
loop-j-init c = refl

pub returns-then-left-n : goal.returns-then-left-n
returns-then-left-n c =
    let a = c.args in
    sym (sum_over a.steps.now a.end c.loop-j.j c.loop-j.left (omega arith) (omega (arith, c.if-left-n.true, ap (λ (s : Step). s.len) c.at-n.ensures))) ∙ c.loop-j.invariant

pub loop-j-preserved : goal.loop-j-preserved
loop-j-preserved c =
    let a = c.args in
    rw c.at-n.ensures (sym (sum-next a.steps.now a.end c.loop-j.j c.loop-j.left (omega arith) (omega (arith, ap (λ (s : Step). s.len) c.at-n.ensures))) ∙ c.loop-j.invariant)

pub returns : goal.returns
returns c =
    let a = c.args in
    sum_done a.steps.now a.end c.loop-j.j c.loop-j.left (omega arith) ∙ c.loop-j.invariant
