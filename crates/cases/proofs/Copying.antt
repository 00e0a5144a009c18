-- One turn of a loop that copies a list to the front of another, and what stands there at the end.
use Prim.Native.Nat.{ℕ, zero, suc, ◌+◌, ◌<◌, min}
use mathlib.Core.Path.{◌≡◌, refl, sym, ap, ◌∙◌}
use mathlib.Core.List.{List, [], ◌∷◌, map}
use native.Mathlib.Numerals.{add-one}
use native.Mathlib.Omega.{arith}
use lib.ListN.{length, take, get_or, set}
use lib.Seq.{take-suc, take-suc-set, take-nil}

-- the first i are there, and the next one is put after them
pub copied_more : (src to : List ℕ) (i v : ℕ) → i < length to → i < length src → take i to ≡ take i src → v ≡ get_or src i 0 → take (i + 1) (set to i v) ≡ take (i + 1) src
copied_more src to i v h k e q = rw (add-one, take-suc-set to i v h, take-suc src i 0 k, e, q)

pub take_least : (src : List ℕ) (m : ℕ) → take (min (length src) m) src ≡ take m src
take_least [] m = rw (take-nil, take-nil)
take_least (a ∷ src) zero =
    let e : min (suc (length src)) zero ≡ zero = omega arith in
    ap (λ (n : ℕ). take n (a ∷ src)) e
take_least (a ∷ src) (suc m) =
    let e : min (suc (length src)) (suc m) ≡ suc (min (length src) m) = omega arith in
    ap (λ (n : ℕ). take n (a ∷ src)) e ∙ ap (λ (l : List ℕ). a ∷ l) (take_least src m)

pub take-map : (f : ℕ → ℕ) (m : ℕ) (src : List ℕ) → take m (map f src) ≡ map f (take m src)
take-map f m [] = rw take-nil
take-map f zero (a ∷ src) = refl
take-map f (suc m) (a ∷ src) = ap (λ (l : List ℕ). f a ∷ l) (take-map f m src)

-- all that there was room for is there
pub copied : (src to : List ℕ) (i n m : ℕ) → i ≡ n → n ≡ min (length src) m → take i to ≡ take i src → take n to ≡ take m src
copied src to i n m h k e =
    ap (λ (j : ℕ). take j to) (sym h) ∙ e ∙ ap (λ (j : ℕ). take j src) (h ∙ k) ∙ take_least src m
