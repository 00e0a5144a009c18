use native.Mathlib.Numerals.{add-one}
use native.Mathlib.Omega.{arith}
use lib.ListN.{length-set}
use Rattle.events.proofs.Step.put.Goals as goal

pub bounds-steps-k-2 : goal.bounds-steps-k-2
bounds-steps-k-2 c = simp length-set (omega arith)

pub returns : goal.returns
returns c = rw add-one
