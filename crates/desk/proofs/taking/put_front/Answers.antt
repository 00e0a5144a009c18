use native.Mathlib.Omega.{arith}
use mathlib.Core.Path.{refl}
use Rattle.desk.proofs.Front.{fronting_none, fronting_next, fronting_all}
use Rattle.desk.proofs.taking.put_front.Goals as goal

pub loop-i-init : goal.loop-i-init
loop-i-init c = fronting_none c.args.from.now c.args.to.now

pub loop-i-preserved : goal.loop-i-preserved
loop-i-preserved c = fronting_next c.loop-i.invariant _ refl (omega arith)

pub returns : goal.returns
returns c = fronting_all c.loop-i.invariant (omega arith)
