use mathlib.Core.Path.{sym, ◌∙◌}
use native.Mathlib.Omega.{arith}
use borrow.Author.Rules.{rules}
use Rattle.text.proofs.StepEnds.{rest_arrow, rest_more, rest_end, step_whole}
use Rattle.text.proofs.steps.walk_step_end.Goals as goal

pub loop-i-init : goal.loop-i-init
loop-i-init c =
    let a = c.args in
    (search rules, step_whole a.bytes.now a.from c.requires)

pub returns-then-is_arrow : goal.returns-then-is_arrow
returns-then-is_arrow c =
    let a = c.args in
    c.loop-i.invariant.1 _ (rest_arrow a.bytes.now c.loop-i.i (omega arith) (sym c.is_arrow.ensures ∙ c.if-is_arrow.true))

pub loop-i-preserved : goal.loop-i-preserved
loop-i-preserved c =
    let a = c.args in
    let t = sym c.is_arrow.ensures ∙ c.if-is_arrow.false in
    (search rules, λ r s. c.loop-i.invariant.1 r (rest_more a.bytes.now c.loop-i.i (omega arith) t r s))

pub returns : goal.returns
returns c =
    let a = c.args in
    c.loop-i.invariant.1 _ (rest_end a.bytes.now c.loop-i.i (omega arith))
