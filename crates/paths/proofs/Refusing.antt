-- Only P and W lines are looked at: over all lines, the others give nothing.
use Prim.Native.Nat.{ℕ}
use mathlib.Core.Path.{◌≡◌, refl, ap}
use mathlib.Core.Bool.{Bool, true, false, cond, ◌&&◌}
use mathlib.Core.List.{List, [], ◌∷◌}
use Rattle.kit.specs.Loops.{all, keep}
use Rattle.text.specs.Refusal.{or_number, first_number}

module _ (p : List ℕ → Bool) where
  pub first-kept : (f : List ℕ → ℕ) (ls : List (List ℕ)) → first_number (λ l. cond (p l) (f l) 0) ls ≡ first_number f (keep p ls)
  first-kept f [] = refl
  first-kept f (l ∷ ls) = by (p l) (first-kept f ls)
    where
      by : (b : Bool) → first_number (λ x. cond (p x) (f x) 0) ls ≡ first_number f (keep p ls) → or_number (cond b (f l) 0) (first_number (λ x. cond (p x) (f x) 0) ls) ≡ first_number f (cond b (l ∷ keep p ls) (keep p ls))
      by true e = ap (or_number (f l)) e
      by false e = e

  pub all-kept : (q : List ℕ → Bool) (ls : List (List ℕ)) → all (λ l. cond (p l) (q l) true) ls ≡ all q (keep p ls)
  all-kept q [] = refl
  all-kept q (l ∷ ls) = by (p l) (all-kept q ls)
    where
      by : (b : Bool) → all (λ x. cond (p x) (q x) true) ls ≡ all q (keep p ls) → (cond b (q l) true && all (λ x. cond (p x) (q x) true) ls) ≡ all q (cond b (l ∷ keep p ls) (keep p ls))
      by true e = ap (λ (t : Bool). q l && t) e
      by false e = e
