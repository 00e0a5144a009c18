use mathlib.Core.Path.{sym, ap, ◌∙◌}
use native.Mathlib.Omega.{arith}
use borrow.Author.Tests.{not-true, not-false}
use Rattle.events.proofs.Fields.{left-rule}
use Rattle.events.specs.WellFormed.{good_rule}
use Rattle.events.specs.Events.{rule_layout}
use Rattle.kit.proofs.Steps.{all_pass, all_fail, all_end}
use Rattle.kit.proofs.Laws.{left_none}
use Rattle.events.proofs.good_rules.Goals as goal

pub returns-then-not-good_rule : goal.returns-then-not-good_rule
returns-then-not-good_rule c =
    let a = c.args in
    let i = c.loop-i.i in
    let more = left-rule a.count i a.rules.now (omega arith) in
    sym (all_fail (good_rule a.total) more (ap (good_rule a.total) (sym c.at.ensures) ∙ sym c.good_rule.ensures ∙ not-true _ c.if-not-good_rule.true-raw)) ∙ c.loop-i.invariant

pub loop-i-preserved : goal.loop-i-preserved
loop-i-preserved c =
    let a = c.args in
    let i = c.loop-i.i in
    let more = left-rule a.count i a.rules.now (omega arith) in
    sym (all_pass (good_rule a.total) more (ap (good_rule a.total) (sym c.at.ensures) ∙ sym c.good_rule.ensures ∙ not-false _ c.if-not-good_rule.false-raw)) ∙ c.loop-i.invariant

pub returns : goal.returns
returns c =
    let a = c.args in
    let i = c.loop-i.i in
    sym (all_end (good_rule a.total) (left_none rule_layout a.count i a.rules.now (omega arith))) ∙ c.loop-i.invariant
