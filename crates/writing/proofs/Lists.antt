-- Lists that are a part of another: what is kept of it, dropped, or put in rising order; and how long the lines of a list are.
use Prim.Native.Nat.{ℕ, zero, suc, ◌*◌, ◌≤◌}
use mathlib.Core.Path.{◌≡◌, refl, ap}
use mathlib.Core.Bool.{Bool, true, false, cond}
use mathlib.Core.List.{List, [], ◌∷◌, Memᴰ}
use native.Mathlib.Omega.{arith}
use lib.ListN.{length, drop, length-append}
use Rattle.kit.specs.Loops.{distinct, keep, lines}
use Rattle.kit.proofs.Bools.{and_both, not_of}
use Rattle.kit.proofs.Meaning.{none_mem, none_of, distinct-first, distinct-rest}
use Rattle.kit.proofs.Members.{of_keep}
use Rattle.handle.specs.declared.Handle.{Handle}
use Rattle.handle.specs.Handle.{same_handle, before}
use Rattle.sides.specs.Sides.{insert_once, rising}

module _ {A : Type 0} where
  -- every element passes, and none does
  pub keep_all : (p : A → Bool) (rs : List A) → ((a : A) → Memᴰ a rs → p a ≡ true) → keep p rs ≡ rs
  keep_all p [] h = refl
  keep_all p (a ∷ rs) h = rw (h a (Memᴰ.head refl)) (ap (λ (l : List A). a ∷ l) (keep_all p rs (λ b m. h b (Memᴰ.tail m))))

  pub length-keep : (p : A → Bool) (rs : List A) → length (keep p rs) ≤ length rs
  length-keep p [] = omega arith
  length-keep p (a ∷ rs) = by (p a) (length-keep p rs)
    where
      by : (b : Bool) → length (keep p rs) ≤ length rs → length (cond b (a ∷ keep p rs) (keep p rs)) ≤ suc (length rs)
      by true h = omega arith
      by false h = omega arith

  -- a part of a list has no element twice if the list has none
  module _ (same : A → A → Bool) where
    pub distinct-drop : (i : ℕ) (rs : List A) → distinct same rs ≡ true → distinct same (drop i rs) ≡ true
    distinct-drop zero rs t = t
    distinct-drop (suc i) [] t = t
    distinct-drop (suc i) (r ∷ rs) t = distinct-drop i rs (distinct-rest same r rs t)

    pub distinct-keep : (p : A → Bool) (rs : List A) → distinct same rs ≡ true → distinct same (keep p rs) ≡ true
    distinct-keep p [] t = refl
    distinct-keep p (r ∷ rs) t = by (p r) (distinct-keep p rs (distinct-rest same r rs t))
      where
        by : (b : Bool) → distinct same (keep p rs) ≡ true → distinct same (cond b (r ∷ keep p rs) (keep p rs)) ≡ true
        by true h = and_both _ _ (not_of _ (none_of (same r) (keep p rs) (λ a m. none_mem (same r) (distinct-first same r rs t) (of_keep p rs m).0))) h
        by false h = h

  -- lines of at most m bytes each
  pub lines-bound : (f : A → List ℕ) (m : ℕ) (rs : List A) → ((a : A) → Memᴰ a rs → length (f a) ≤ m) → length (lines f rs) ≤ m * length rs
  lines-bound f m [] h = omega arith
  lines-bound f m (a ∷ rs) h =
      omega (arith, length-append (f a) (lines f rs), h a (Memᴰ.head refl), lines-bound f m rs (λ b k. h b (Memᴰ.tail k)))

length_insert : (x : Handle) (ys : List Handle) → length (insert_once x ys) ≤ suc (length ys)
length_insert x [] = omega arith
length_insert x (y ∷ ys) = by (before x y) (same_handle x y) (length_insert x ys)
  where
    by : (b s : Bool) → length (insert_once x ys) ≤ suc (length ys) → length (cond b (x ∷ y ∷ ys) (cond s (y ∷ ys) (y ∷ insert_once x ys))) ≤ suc (suc (length ys))
    by true s h = omega arith
    by false true h = omega arith
    by false false h = omega arith

pub length-rising : (xs : List Handle) → length (rising xs) ≤ length xs
length-rising [] = omega arith
length-rising (x ∷ xs) = omega (arith, length_insert x (rising xs), length-rising xs)
