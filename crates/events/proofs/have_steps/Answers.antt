use mathlib.Core.Path.{sym, ap, ◌∙◌}
use native.Mathlib.Omega.{arith}
use borrow.Author.Tests.{le-leb, lt-leb}
use Rattle.events.proofs.Fields.{left-rule}
use Rattle.events.specs.WellFormed.{has_step}
use Rattle.events.specs.Events.{rule_layout}
use Rattle.kit.proofs.Steps.{all_pass, all_fail, all_end}
use Rattle.kit.proofs.Laws.{left_none}
use Rattle.events.proofs.have_steps.Goals as goal

pub returns-then-at-lt1 : goal.returns-then-at-lt1
returns-then-at-lt1 c =
    let a = c.args in
    let i = c.loop-i.i in
    let more = left-rule a.count i a.rules.now (omega arith) in
    sym (all_fail has_step more (ap has_step (sym c.at.ensures) ∙ lt-leb _ _ c.if-at-lt1.true)) ∙ c.loop-i.invariant

pub loop-i-preserved : goal.loop-i-preserved
loop-i-preserved c =
    let a = c.args in
    let i = c.loop-i.i in
    let more = left-rule a.count i a.rules.now (omega arith) in
    sym (all_pass has_step more (ap has_step (sym c.at.ensures) ∙ le-leb _ _ c.if-at-lt1.false)) ∙ c.loop-i.invariant

pub returns : goal.returns
returns c =
    let a = c.args in
    let i = c.loop-i.i in
    sym (all_end has_step (left_none rule_layout a.count i a.rules.now (omega arith))) ∙ c.loop-i.invariant
