-- A rule of a table, proved at all of its entries by one test that antt computes, one entry after the other.
use Prim.Native.Nat.{ℕ, zero, suc, ◌+◌, ◌<◌}
use mathlib.Core.Path.{◌≡◌}
use mathlib.Core.Bool.{Bool, true, ◌&&◌}
use mathlib.Core.List.{List, [], ◌∷◌}
use native.Mathlib.Nat.{add-zero, zero-add, add-suc, suc-add, le_of_suc-le-suc, not-suc-le-zero}
use lib.ListN.{length, get_or}
use Rattle.kit.proofs.Bools.{and_true_l, and_true_r}

-- the test f passes at each entry of the list and its place, counted from i
abbrev pub every : (ℕ → ℕ → Bool) → ℕ → List ℕ → Bool
every f i [] = true
every f i (x ∷ xs) = f i x && every f (suc i) xs

from : (f : ℕ → ℕ → Bool) (xs : List ℕ) (i : ℕ) → every f i xs ≡ true → (k : ℕ) → k < length xs → f (i + k) (get_or xs k 0) ≡ true
from f [] i t k h = absurd (not-suc-le-zero h)
from f (x ∷ xs) i t zero h = rw add-zero (and_true_l (f i x) (every f (suc i) xs) t)
from f (x ∷ xs) i t (suc k) h =
    rw (add-suc, ← suc-add) (from f xs (suc i) (and_true_r (f i x) (every f (suc i) xs) t) k (le_of_suc-le-suc h))

pub at : (f : ℕ → ℕ → Bool) (xs : List ℕ) → every f 0 xs ≡ true → (k : ℕ) → k < length xs → f k (get_or xs k 0) ≡ true
at f xs t k h = rw zero-add at (from f xs 0 t k h)
