use native.Mathlib.Numerals.{add-one, add-two, add-three}
use native.Mathlib.Omega.{arith}
use lib.ListN.{length-set}
use Rattle.events.proofs.Rule.put.Goals as goal

pub bounds-rules-k-2 : goal.bounds-rules-k-2
bounds-rules-k-2 c = simp length-set (omega arith)

pub bounds-rules-k-3 : goal.bounds-rules-k-3
bounds-rules-k-3 c = simp length-set (omega arith)

pub bounds-rules-k-4 : goal.bounds-rules-k-4
bounds-rules-k-4 c = simp length-set (omega arith)

pub returns : goal.returns
returns c = rw (add-one, add-two, add-three)
