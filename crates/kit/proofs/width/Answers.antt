use Rattle.std.proofs.Common.{arith}
use Rattle.kit.proofs.Decimal.{length-small, length_big, decimal_short, decimal_some}
use Rattle.kit.proofs.width.Goals as goal

pub overflow_add-w : goal.overflow_add-w
overflow_add-w c = omega (arith, decimal_short c.args.n (omega arith), decimal_some c.loop-x.x)

pub loop-x-preserved : goal.loop-x-preserved
loop-x-preserved c = omega (arith, length_big c.loop-x.x (omega arith))

pub returns : goal.returns
returns c = omega (arith, length-small c.loop-x.x (omega arith))
