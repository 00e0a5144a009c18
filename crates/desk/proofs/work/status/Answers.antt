use native.Mathlib.Omega.{arith}
use borrow.Author.Tests.{ne_eqb}
use Rattle.desk.proofs.work.status.Goals as goal

pub returns-then-done-ne0 : goal.returns-then-done-ne0
returns-then-done-ne0 g c = record { value = rw (ne_eqb _ 0 c.if-done-ne0.true); upper_bound = omega arith }

pub returns-then-done-ne0-2 : goal.returns-then-done-ne0-2
returns-then-done-ne0-2 g c = record { value = rw (c.if-done-ne0.false, ne_eqb _ 0 c.if-done-ne0-2.true); upper_bound = omega arith }

pub returns-then-done-ne0-3 : goal.returns-then-done-ne0-3
returns-then-done-ne0-3 g c = record { value = rw (c.if-done-ne0.false, c.if-done-ne0-2.false, ne_eqb _ 0 c.if-done-ne0-3.true); upper_bound = omega arith }

pub returns : goal.returns
returns g c = record { value = rw (c.if-done-ne0.false, c.if-done-ne0-2.false, c.if-done-ne0-3.false); upper_bound = omega arith }
