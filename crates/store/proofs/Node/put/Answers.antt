use native.Mathlib.Numerals.{add-one, add-two, add-three}
use native.Mathlib.Omega.{arith}
use lib.ListN.{length-set}
use Rattle.store.proofs.Node.put.Goals as goal

pub bounds-nodes-k-2 : goal.bounds-nodes-k-2
bounds-nodes-k-2 c = simp length-set (omega arith)

pub bounds-nodes-k-3 : goal.bounds-nodes-k-3
bounds-nodes-k-3 c = simp length-set (omega arith)

pub bounds-nodes-k-4 : goal.bounds-nodes-k-4
bounds-nodes-k-4 c = simp length-set (omega arith)

pub returns : goal.returns
returns c = rw (add-one, add-two, add-three)
