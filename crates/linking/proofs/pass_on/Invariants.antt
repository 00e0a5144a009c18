use Prim.Native.Nat.{ℕ}
use mathlib.Core.Path.{◌≡◌}
use mathlib.Core.List.{List, map}
use lib.ListN.{length}
use Rattle.handle.specs.declared.Handle.{Handle}
use Rattle.store.specs.Graph.{links_of}
use Rattle.sides.proofs.Rising.{rest_above}
use Rattle.merging.specs.Merging.{add_links, read_as}
use Rattle.merging.specs.Plan.{right_in}
use Rattle.linking.proofs.Fitting.{Holds}
use Rattle.linking.proofs.Passing.{to_pass}
use Rattle.linking.proofs.pass_on.Given as goal

-- at the head of the loop: what is left to add, above the last neighbour, to the links that stand
pub record Inv (links₀ : List ℕ) (count : ℕ) (m x : Handle) (links : List ℕ) (n above : ℕ) : Type 0 where
  pub size : length links ≡ length links₀
  pub holds : Holds links₀ (links_of n links) n links
  pub todo : to_pass m x above (links_of n links) ≡ add_links x (map (read_as m x) (right_in (links_of count links₀) m)) (links_of count links₀)

abbrev pub invariant-loop-y : goal.invariant-loop-y
invariant-loop-y l = Inv l.initial.links l.count l.m l.x l.links l.n l.above

abbrev pub decreases-loop-y : goal.decreases-loop-y
decreases-loop-y l = length (rest_above l.above (right_in (links_of l.n l.links) l.m))
