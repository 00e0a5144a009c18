use mathlib.Core.Path.{sym, ap, ◌∙◌}
use native.Mathlib.Omega.{arith}
use borrow.Author.Tests.{not-true, not-false}
use Rattle.events.proofs.Fields.{left_step}
use Rattle.events.specs.WellFormed.{good_step}
use Rattle.events.specs.Events.{step_layout}
use Rattle.kit.proofs.Steps.{all_pass, all_fail, all_end}
use Rattle.kit.proofs.Laws.{left_none}
use Rattle.events.proofs.good_steps.Goals as goal

pub returns-then-not-is_handle : goal.returns-then-not-is_handle
returns-then-not-is_handle c =
    let a = c.args in
    let i = c.loop-i.i in
    let more = left_step a.count i a.steps.now (omega arith) in
    sym (all_fail good_step more (ap good_step (sym c.at.ensures) ∙ sym c.is_handle.ensures ∙ not-true _ c.if-not-is_handle.true-raw)) ∙ c.loop-i.invariant

pub loop-i-preserved : goal.loop-i-preserved
loop-i-preserved c =
    let a = c.args in
    let i = c.loop-i.i in
    let more = left_step a.count i a.steps.now (omega arith) in
    sym (all_pass good_step more (ap good_step (sym c.at.ensures) ∙ sym c.is_handle.ensures ∙ not-false _ c.if-not-is_handle.false-raw)) ∙ c.loop-i.invariant

pub returns : goal.returns
returns c =
    let a = c.args in
    let i = c.loop-i.i in
    sym (all_end good_step (left_none step_layout a.count i a.steps.now (omega arith))) ∙ c.loop-i.invariant
