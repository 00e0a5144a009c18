use Prim.Native.Nat.{ℕ}
use mathlib.Core.List.{List}
use lib.ListN.{drop}
use Rattle.store.specs.Graph.{links_of}
use Rattle.store.specs.declared.Link.{Link}
use Rattle.merging.specs.Plan.{remark}
use Rattle.merging.proofs.Putting.{Putting}
use Rattle.merging.proofs.copies.put_ends.Given as goal

abbrev pub left : List ℕ → List ℕ → ℕ → ℕ → List Link
left plan l₀ n i = remark (drop i (links_of n l₀)) (drop i (links_of n plan))

abbrev pub invariant-loop-i : goal.invariant-loop-i
invariant-loop-i l = Putting l.initial.links l.links l.i (left l.plan l.initial.links l.count l.i) (left l.plan l.initial.links l.count 0)
