-- Lists with one element changed, one element more, or mapped.
use Prim.Native.Nat.{ℕ, zero, suc, ◌+◌, ◌<◌, suc-le-suc}
use mathlib.Core.Path.{◌≡◌, refl, sym, ap, ap₂, ◌∙◌}
use mathlib.Core.Bool.{Bool, true, false, ◌||◌}
use mathlib.Core.List.{List, [], ◌∷◌, ◌++◌, map, Memᴰ}
use native.Mathlib.Nat.{le_of_suc-le-suc, not-suc-le-zero}
use native.Mathlib.Omega.{arith}
use lib.ListN.{length, get_or, set}
use Rattle.kit.specs.Loops.{any, distinct, sum}
use Rattle.kit.proofs.Bools.{never, and_both, or_neither, not_of, not_true_false}
use Rattle.kit.proofs.Meaning.{any_append, any-map, none_mem, none_of, distinct-first, distinct-rest}

module _ {A : Type 0} where
  map_same : (f : A → A) (rs : List A) → ((j : ℕ) → j < length rs → (d : A) → f (get_or rs j d) ≡ get_or rs j d) → map f rs ≡ rs
  map_same f [] h = refl
  map_same f (a ∷ rs) h = ap₂ ◌∷◌ (h 0 (omega arith) a) (map_same f rs (λ j k. h (suc j) (suc-le-suc k)))

  -- a map that leaves every element but the one at i
  pub map-one : (f : A → A) (rs : List A) (i : ℕ) (d : A) → i < length rs → ((j : ℕ) → j < length rs → (j ≡ i → ⊥) → (d : A) → f (get_or rs j d) ≡ get_or rs j d) → map f rs ≡ set rs i (f (get_or rs i d))
  map-one f [] i d k h = absurd (not-suc-le-zero k)
  map-one f (a ∷ rs) zero d k h = ap (λ (t : List A). f a ∷ t) (map_same f rs (λ j m. h (suc j) (suc-le-suc m) (λ e. omega arith)))
  map-one f (a ∷ rs) (suc i) d k h =
      ap₂ ◌∷◌ (h 0 (omega arith) (λ e. omega arith) a)
      (map-one f rs i d (le_of_suc-le-suc k) (λ j m n. h (suc j) (suc-le-suc m) (λ e. n (omega arith))))

  pub sum-set : (f : A → ℕ) (rs : List A) (i : ℕ) (x d : A) → i < length rs → sum f (set rs i x) + f (get_or rs i d) ≡ sum f rs + f x
  sum-set f [] i x d k = absurd (not-suc-le-zero k)
  sum-set f (a ∷ rs) zero x d k = omega arith
  sum-set f (a ∷ rs) (suc i) x d k = omega (arith, sum-set f rs i x d (le_of_suc-le-suc k))

  -- two tests that agree on every element
  pub any_same : (p q : A → Bool) (rs : List A) → ((a : A) → Memᴰ a rs → p a ≡ q a) → any p rs ≡ any q rs
  any_same p q [] h = refl
  any_same p q (a ∷ rs) h = ap₂ ◌||◌ (h a (Memᴰ.head refl)) (any_same p q rs (λ b m. h b (Memᴰ.tail m)))

  -- one element more, that is the same as none
  pub distinct_snoc : (same : A → A → Bool) (rs : List A) (x : A) → distinct same rs ≡ true → ((a : A) → Memᴰ a rs → same a x ≡ false) → distinct same (rs ++ (x ∷ [])) ≡ true
  distinct_snoc same [] x t h = refl
  distinct_snoc same (a ∷ rs) x t h =
      and_both _ _
      (not_of _ (any_append (same a) rs (x ∷ []) ∙ or_neither _ _ (distinct-first same a rs t) (or_neither _ false (h a (Memᴰ.head refl)) refl)))
      (distinct_snoc same rs x (distinct-rest same a rs t) (λ b m. h b (Memᴰ.tail m)))

-- a map after which two elements are the same only if they were
pub distinct-map : {A B : Type 0} (same : A → A → Bool) (alike : B → B → Bool) (f : A → B) (rs : List A) → distinct same rs ≡ true → ((a b : A) → Memᴰ a rs → Memᴰ b rs → alike (f a) (f b) ≡ true → same a b ≡ true) → distinct alike (map f rs) ≡ true
distinct-map same alike f [] t h = refl
distinct-map same alike f (a ∷ rs) t h =
    and_both _ _
    (not_of _ (any-map (alike (f a)) f rs
    ∙ none_of (λ b. alike (f a) (f b)) rs (λ b m. not_true_false _ (λ e. never (sym (h a b (Memᴰ.head refl) (Memᴰ.tail m) e) ∙ none_mem (same a) (distinct-first same a rs t) m)))))
    (distinct-map same alike f rs (distinct-rest same a rs t) (λ b c m n. h b c (Memᴰ.tail m) (Memᴰ.tail n)))
