use mathlib.Core.Path.{◌∙◌}
use Rattle.records.proofs.Scan.{is_out, stays, still_none, is_first}
use Rattle.records.proofs.check_steps.next_fault.Goals as goal

pub returns-then-number-eq13 : goal.returns-then-number-eq13
returns-then-number-eq13 c = let a = c.args in c.fault.ensures ∙ is_out a.found a.number a.at c.if-number-eq13.true

pub returns-then-found-ne0 : goal.returns-then-found-ne0
returns-then-found-ne0 c = let a = c.args in stays a.found a.number a.at c.if-number-eq13.false c.if-found-ne0.true

pub returns-then-number-eq0 : goal.returns-then-number-eq0
returns-then-number-eq0 c = let a = c.args in still_none a.found a.number a.at c.if-number-eq13.false c.if-found-ne0.false c.if-number-eq0.true

pub returns : goal.returns
returns c =
    let a = c.args in
    c.fault-2.ensures ∙ is_first a.found a.number a.at c.if-number-eq13.false c.if-found-ne0.false c.if-number-eq0.false
