use native.Mathlib.Numerals.{add-one, add-two}
use native.Mathlib.Omega.{arith}
use lib.ListN.{length-set}
use Rattle.store.proofs.Link.put.Goals as goal

pub bounds-links-k-2 : goal.bounds-links-k-2
bounds-links-k-2 c = simp length-set (omega arith)

pub bounds-links-k-3 : goal.bounds-links-k-3
bounds-links-k-3 c = simp length-set (omega arith)

pub returns : goal.returns
returns c = rw (add-one, add-two)
