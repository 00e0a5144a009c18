use mathlib.Core.Path.{refl, sym, ◌∙◌}
use native.Mathlib.Omega.{arith}
use Rattle.cases.proofs.Tests.{fault-more, fault_past, fault-left, fault_none}
use Rattle.cases.proofs.faults.first_fault.Goals as goal

pub loop-i-init : goal.loop-i-init
loop-i-init c = refl

pub returns-in_default : goal.returns-in_default
returns-in_default c =
    let a = c.args in
    fault_past c.loop-i.worst a.shape.now a.numbers.now c.loop-i.i c.loop-i.at c.from-kind.result c.from-kind.ensures (omega arith) (sym (rw c.item_end.ensures.1 at c.item_end.ensures.2) ∙ c.in_default.is) ∙ c.loop-i.invariant

pub loop-i-preserved : goal.loop-i-preserved
loop-i-preserved c =
    let a = c.args in
    fault-more c.loop-i.worst a.shape.now a.numbers.now c.loop-i.i c.loop-i.at c.from-kind.result c.from-kind.ensures c.in-Some.end c.sooner-worst.result c.item_fault.result c.elements.result.now (omega arith) (sym (rw c.item_end.ensures.1 at c.item_end.ensures.2) ∙ c.in-Some.is) c.elements.ensures c.item_fault.ensures c.sooner-worst.ensures ∙ c.loop-i.invariant

pub returns-then-at-numbers : goal.returns-then-at-numbers
returns-then-at-numbers c =
    let a = c.args in
    fault-left c.loop-i.worst a.shape.now a.numbers.now c.loop-i.i c.loop-i.at (omega arith) c.if-at-numbers.true ∙ c.loop-i.invariant

pub returns : goal.returns
returns c =
    let a = c.args in
    fault_none c.loop-i.worst a.shape.now a.numbers.now c.loop-i.i c.loop-i.at (omega arith) c.if-at-numbers.false ∙ c.loop-i.invariant
