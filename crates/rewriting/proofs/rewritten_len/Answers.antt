use native.Mathlib.Omega.{arith}
use Rattle.spelling.proofs.Steps.{measured_next, too_long, measured_all}
use Rattle.rewriting.proofs.rewritten_len.Goals as goal

pub loop-i-init : goal.loop-i-init
loop-i-init c = record { along = omega arith; fits = omega arith; rest = omega arith }

pub returns-then-room-n : goal.returns-then-room-n
returns-then-room-n c = too_long c.loop-i.invariant c.image_len-len.result c.image_len-len.ensures (omega arith) c.if-room-n.true

pub loop-i-preserved : goal.loop-i-preserved
loop-i-preserved c = measured_next c.loop-i.invariant c.image_len-len.result c.image_len-len.ensures (omega arith) c.if-room-n.false

pub returns : goal.returns
returns c = measured_all c.loop-i.invariant (omega arith)
