-- The definitions on a small graph: nodes 1 to 5, of which 3 is marked; 1+ to 5+, 1+ to 2+, 1+ to 3+, 2+ to 2-, 2- to 2+,
-- 1+ to 1+, 1+ to 4+.
use Prim.Native.Nat.{ℕ}
use mathlib.Core.Path.{◌≡◌, refl}
use mathlib.Core.Bool.{true, false}
use mathlib.Core.List.{List, [], ◌∷◌}
use lib.ListN.{length}
use Rattle.handle.specs.Handle.{pack, flip, before}
use Rattle.store.specs.Graph.{Graph}
use Rattle.sides.specs.Sides.{right_of, left_of, left_in, same_left, next_above, nth_of, bare}

abbrev nodes : List ℕ
nodes = 1 ∷ 0 ∷ 1 ∷ 0 ∷ 2 ∷ 0 ∷ 1 ∷ 0 ∷ 3 ∷ 0 ∷ 1 ∷ 1 ∷ 4 ∷ 0 ∷ 1 ∷ 0 ∷ 5 ∷ 0 ∷ 1 ∷ 0 ∷ []

abbrev links : List ℕ
links = 2 ∷ 10 ∷ 0 ∷ 2 ∷ 4 ∷ 0 ∷ 2 ∷ 6 ∷ 0 ∷ 4 ∷ 5 ∷ 0 ∷ 5 ∷ 4 ∷ 0 ∷ 2 ∷ 2 ∷ 0 ∷ 2 ∷ 8 ∷ 0 ∷ []

abbrev g : Graph
g = bare nodes links (record { nodes = 5; letters = 5; links = 7 })

-- by rising id whatever the links' order; the link to the marked 3 leads nowhere
rights : (right_of g (pack 1 0) ≡ pack 1 0 ∷ pack 2 0 ∷ pack 4 0 ∷ pack 5 0 ∷ []) × (right_of g (pack 2 0) ≡ pack 2 1 ∷ []) × (right_of g (pack 2 1) ≡ pack 1 1 ∷ pack 2 0 ∷ []) × (right_of g (pack 3 1) ≡ [])
unfolding flip before
rights = (refl, refl, refl, refl)

-- hairpins put 2- on both sides of 2+, a loop makes 1+ its own neighbour: nothing is left out or renamed
lefts : (left_of g (pack 2 0) ≡ pack 1 0 ∷ pack 2 1 ∷ []) × (left_of g (pack 1 0) ≡ pack 1 0 ∷ []) × (left_of g (pack 1 1) ≡ pack 1 1 ∷ pack 2 1 ∷ pack 4 1 ∷ pack 5 1 ∷ [])
unfolding flip before
lefts = (refl, refl, refl)

-- 4's left is in 2's, and not the other way round
same : (same_left g (pack 4 0) (pack 5 0) ≡ true) × (left_in g (pack 4 0) (pack 2 0) ≡ true) × (left_in g (pack 2 0) (pack 4 0) ≡ false) × (same_left g (pack 4 0) (pack 2 0) ≡ false)
unfolding flip before
same = (refl, refl, refl, refl)

along : (next_above 0 (right_of g (pack 1 0)) ≡ 2) × (next_above 4 (right_of g (pack 1 0)) ≡ 8) × (next_above 10 (right_of g (pack 1 0)) ≡ 0) × (nth_of 3 (right_of g (pack 1 0)) ≡ 10) × (nth_of 4 (right_of g (pack 1 0)) ≡ 0) × (length (left_of g (pack 2 0)) ≡ 2)
unfolding flip before
along = (refl, refl, refl, refl, refl, refl)
