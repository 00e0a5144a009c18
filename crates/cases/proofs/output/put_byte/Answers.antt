use native.Mathlib.Omega.{arith}
use lib.ListN.{length-set}
use Rattle.cases.proofs.output.put_byte.Goals as goal

pub returns : goal.returns
returns g c = record { inside = simp length-set (omega arith); enough = simp length-set (omega arith) }
