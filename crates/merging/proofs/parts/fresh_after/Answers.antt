use native.Mathlib.Omega.{arith}
use Rattle.merging.proofs.parts.fresh_after.Goals as goal

pub overflow_add-result : goal.overflow_add-result
overflow_add-result c = omega (arith, c.requires c.if-long.true)

pub returns-then-long : goal.returns-then-long
returns-then-long c = rw c.if-long.true
