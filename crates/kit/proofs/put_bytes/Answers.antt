use native.Mathlib.Omega.{arith}
use Rattle.std.proofs.Common.{refl}
use Rattle.kit.proofs.Writes.{putting_none, putting_next, putting_all}
use Rattle.kit.proofs.put_bytes.Goals as goal

pub loop-i-init : goal.loop-i-init
loop-i-init c = putting_none c.args.bytes.now c.args.at c.args.out.now

pub loop-i-preserved : goal.loop-i-preserved
loop-i-preserved c = putting_next c.loop-i.invariant _ refl (omega arith)

pub returns : goal.returns
returns c = putting_all c.loop-i.invariant (omega arith)
