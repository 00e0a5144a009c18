-- The shared prefix is the longest run that 01 speaks of: it agrees at every place before its end, and at its end it cannot go on.
use Prim.Native.Nat.{ℕ, zero, suc, ◌≤◌, ◌<◌}
use mathlib.Core.Path.{◌≡◌, refl, sym, ap}
use mathlib.Core.Logic.{◌⊎◌, inl, inr, ⊎_elim}
use mathlib.Core.Bool.{Bool, true, false, cond, ◌&&◌}
use mathlib.Core.List.Memᴰ
use mathlib.Core.List.{List, [], ◌∷◌, map, tail, Memᴰ}
use native.Mathlib.Nat.{le_of_suc-le-suc, not-suc-le-zero}
use native.Mathlib.Omega.{arith}
use borrow.Author.Tests.{eq-eqb, eqb-true, not-false}
use lib.Dec.{eqb}
use lib.ListN.{length, take, get_or}
use Rattle.kit.specs.Loops.{all}
use Rattle.kit.proofs.Bools.{never, and_true_l, and_true_r}
use Rattle.kit.proofs.Meaning.{all_mem, all-at, not-all}
use Rattle.letters.specs.Letters.{is_letter, upper_of, same_letter, is_base}
use Rattle.letters.specs.Sequences.{all_letters}
use Rattle.affix.specs.Prefix.{begins_with, shared, shared_prefix}

-- the letters are the first member's, from its front
pub prefix_take : (s : List ℕ) (ss : List (List ℕ)) → shared_prefix (s ∷ ss) ≡ take (length (shared_prefix (s ∷ ss))) s
prefix_take [] ss = refl
prefix_take (a ∷ s) ss = by (is_base a && all (begins_with a) ss) (prefix_take s (map tail ss))
  where
    by : (b : Bool) → shared s (map tail ss) ≡ take (length (shared s (map tail ss))) s → cond b (a ∷ shared s (map tail ss)) [] ≡ take (length (cond b (a ∷ shared s (map tail ss)) [])) (a ∷ s)
    by true e = ap (λ (t : List ℕ). a ∷ t) e
    by false e = refl

-- t has a letter at place i, the same as s
abbrev pub SameAt : List ℕ → List ℕ → ℕ → Type 0
SameAt s t i = (i < length t) × (same_letter (get_or s i 0) (get_or t i 0) ≡ true)

same_first : (a : ℕ) (s t : List ℕ) → begins_with a t ≡ true → SameAt (a ∷ s) t 0
same_first a s [] e = never (sym e)
same_first a s (b ∷ t) e = (omega arith, e)

same_next : (a : ℕ) (s t : List ℕ) (i : ℕ) → SameAt s (tail t) i → SameAt (a ∷ s) t (suc i)
same_next a s [] i h = absurd (not-suc-le-zero h.0)
same_next a s (b ∷ t) i h = (omega (arith, h.0), h.1)

-- a place of a run that goes on while a test passes
tested : (b : Bool) (a : ℕ) (r : List ℕ) (i : ℕ) → i < length (cond b (a ∷ r) []) → b ≡ true
tested true a r i h = refl
tested false a r i h = absurd (not-suc-le-zero h)

later : (b : Bool) (a : ℕ) (r : List ℕ) (i : ℕ) → suc i < length (cond b (a ∷ r) []) → i < length r
later true a r i h = le_of_suc-le-suc h
later false a r i h = absurd (not-suc-le-zero h)

others-agree : (s : List ℕ) (ss : List (List ℕ)) (i : ℕ) → i < length (shared s ss) → (is_base (get_or s i 0) ≡ true) × (i < length s) × ((t : List ℕ) → Memᴰ t ss → SameAt s t i)
others-agree [] ss i h = absurd (not-suc-le-zero h)
others-agree (a ∷ s) ss zero h =
    let e = tested (is_base a && all (begins_with a) ss) a (shared s (map tail ss)) 0 h in
    (and_true_l (is_base a) (all (begins_with a) ss) e, omega arith, λ t m. same_first a s t (all_mem (begins_with a) (and_true_r (is_base a) (all (begins_with a) ss) e) m))
others-agree (a ∷ s) ss (suc i) h =
    let r = others-agree s (map tail ss) i (later (is_base a && all (begins_with a) ss) a (shared s (map tail ss)) i h) in
    (r.0, omega (arith, r.1), λ t m. same_next a s t i (r.2 (tail t) (Memᴰ.map tail m)))

-- every place before the end agrees and is no N
pub agrees_before : (s : List ℕ) (ss : List (List ℕ)) (i : ℕ) → i < length (shared_prefix (s ∷ ss)) → (is_base (get_or s i 0) ≡ true) × ((t : List ℕ) → Memᴰ t (s ∷ ss) → SameAt s t i)
agrees_before s ss i h =
    let r = others-agree s ss i h in
    let self : SameAt s s i = (r.1, eq-eqb (upper_of (get_or s i 0)) (upper_of (get_or s i 0)) refl) in
    (r.0, λ t m. ⊎_elim (λ e. rw e self) (λ o. r.2 t o) (Memᴰ.cases_cons m))

-- why a run that starts s ends at place n: a member has run out, the first has no base there, or another has another letter
abbrev pub RunsOut : List ℕ → List (List ℕ) → ℕ → Type 0
RunsOut s ss n = (t : List ℕ) × Memᴰ t (s ∷ ss) × (length t ≤ n)

abbrev pub NoBase : List ℕ → ℕ → Type 0
NoBase s n = (n < length s) × (is_base (get_or s n 0) ≡ false)

abbrev pub Differs : List ℕ → List (List ℕ) → ℕ → Type 0
Differs s ss n = (t : List ℕ) × Memᴰ t ss × (n < length t) × (same_letter (get_or s n 0) (get_or t n 0) ≡ false)

abbrev pub Ends : List ℕ → List (List ℕ) → ℕ → Type 0
Ends s ss n = RunsOut s ss n ⊎ (NoBase s n ⊎ Differs s ss n)

ends-first : (a : ℕ) (s : List ℕ) (ss : List (List ℕ)) (t : List ℕ) → Memᴰ t ss → begins_with a t ≡ false → Ends (a ∷ s) ss 0
ends-first a s ss [] m e = inl ([], Memᴰ.tail m, omega arith)
ends-first a s ss (b ∷ t) m e = inr (inr (b ∷ t, m, omega arith, e))

module _ (a : ℕ) (s : List ℕ) (ss : List (List ℕ)) (n : ℕ) where
  short : (t : List ℕ) → length (tail t) ≤ n → length t ≤ suc n
  short [] h = omega arith
  short (b ∷ t) h = omega (arith, h)

  out_next : RunsOut s (map tail ss) n → RunsOut (a ∷ s) ss (suc n)
  out_next (t, m, h) =
      ⊎_elim
      (λ e. let k : length s ≤ n = rw (← e) h in (a ∷ s, Memᴰ.head refl, omega (arith, k)))
      (λ o. let r = Memᴰ.of_map tail ss o in (r.0, Memᴰ.tail r.1, short r.0 (rw r.2 h)))
      (Memᴰ.cases_cons m)

  other-next : (t : List ℕ) → Memᴰ t ss → n < length (tail t) → same_letter (get_or s n 0) (get_or (tail t) n 0) ≡ false → Differs (a ∷ s) ss (suc n)
  other-next [] m h e = absurd (not-suc-le-zero h)
  other-next (b ∷ t) m h e = (b ∷ t, m, omega (arith, h), e)

  differs_next : Differs s (map tail ss) n → Differs (a ∷ s) ss (suc n)
  differs_next (t, m, h, e) =
      let r = Memᴰ.of_map tail ss m in
      other-next r.0 r.1 (rw r.2 h) (rw r.2 e)

  ends_next : Ends s (map tail ss) n → Ends (a ∷ s) ss (suc n)
  ends_next (inl r) = inl (out_next r)
  ends_next (inr (inl r)) = inr (inl (omega (arith, r.0), r.1))
  ends_next (inr (inr r)) = inr (inr (differs_next r))

pub stops_at_end : (s : List ℕ) (ss : List (List ℕ)) → Ends s ss (length (shared_prefix (s ∷ ss)))
stops_at_end [] ss = inl ([], Memᴰ.head refl, omega arith)
stops_at_end (a ∷ s) ss = by (is_base a) (all (begins_with a) ss) refl refl (stops_at_end s (map tail ss))
  where
    by : (b d : Bool) → is_base a ≡ b → all (begins_with a) ss ≡ d → Ends s (map tail ss) (length (shared s (map tail ss))) → Ends (a ∷ s) ss (length (cond (b && d) (a ∷ shared s (map tail ss)) []))
    by true true e f r = ends_next a s ss (length (shared s (map tail ss))) r
    by true false e f r = let q = not-all (begins_with a) ss f in ends-first a s ss q.0 q.1 q.2
    by false d e f r = inr (inl (omega arith, e))

-- where all are letters, what is no base is an N
no_base_is_N : (k : ℕ) → is_letter k ≡ true → is_base k ≡ false → upper_of k ≡ 78
unfolding is_base
no_base_is_N k h e = eqb-true (upper_of k) 78 (not-false (eqb (upper_of k) 78) (rw h at e))

pub has_N : (s : List ℕ) (n : ℕ) → all_letters s ≡ true → NoBase s n → upper_of (get_or s n 0) ≡ 78
has_N s n h r = no_base_is_N (get_or s n 0) (all-at is_letter s h n r.0 0) r.1
