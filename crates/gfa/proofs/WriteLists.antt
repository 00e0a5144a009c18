-- Lists: the first that passes, those that are kept, and lines that are the same one by one.
use mathlib.Core.Path.{◌≡◌, refl, ap₂}
use mathlib.Core.Bool.{Bool, true, false, cond}
use mathlib.Core.List.{List, [], ◌∷◌, ◌++◌, Memᴰ}
use Rattle.kit.specs.Loops.{all, any, distinct, keep, lines}
use Rattle.kit.proofs.Bools.{and_true_l, and_true_r, and_both, or_false_l, or_false_r, not_of}
use Rattle.kit.proofs.Meaning.{none_mem, none_of, distinct-first, distinct-rest}
use Rattle.kit.proofs.Members.{of_keep}

module _ {A : Type 0} (p : A → Bool) where
  pub keep_all : (xs : List A) → all p xs ≡ true → keep p xs ≡ xs
  keep_all [] t = refl
  keep_all (x ∷ xs) t = rw (and_true_l (p x) (all p xs) t, keep_all xs (and_true_r (p x) (all p xs) t))

  pub keep_none : (xs : List A) → any p xs ≡ false → keep p xs ≡ []
  keep_none [] f = refl
  keep_none (x ∷ xs) f = rw (or_false_l (p x) (any p xs) f) (keep_none xs (or_false_r (p x) (any p xs) f))

  pub distinct-keep : (same : A → A → Bool) (xs : List A) → distinct same xs ≡ true → distinct same (keep p xs) ≡ true
  distinct-keep same [] t = refl
  distinct-keep same (x ∷ xs) t = by (p x) (distinct-keep same xs (distinct-rest same x xs t))
    where
      by : (b : Bool) → distinct same (keep p xs) ≡ true → distinct same (cond b (x ∷ keep p xs) (keep p xs)) ≡ true
      by true go =
          and_both _ _
          (not_of _ (none_of (same x) (keep p xs) (λ y m. none_mem (same x) (distinct-first same x xs t) (of_keep p xs m).0)))
          go
      by false go = go

pub lines_same : {A B : Type 0} (f k : A → List B) (rs : List A) → ((a : A) → Memᴰ a rs → f a ≡ k a) → lines f rs ≡ lines k rs
lines_same f k [] e = refl
lines_same f k (a ∷ rs) e = ap₂ ◌++◌ (e a (Memᴰ.head refl)) (lines_same f k rs (λ b m. e b (Memᴰ.tail m)))
