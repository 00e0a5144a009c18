-- The laws of sequences of letters: the reverse complement, what is read in a direction, and spelling.
use Prim.Native.Nat.{ℕ, zero, suc, ◌+◌, ◌-◌, ◌<◌}
use mathlib.Core.Path.{◌≡◌, refl, sym, ap, ap₂, ◌∙◌}
use mathlib.Core.Logic.{◌↔◌}
use mathlib.Core.Bool.{true, false, cond, ◌&&◌, and_assoc}
use mathlib.Core.List.{List, [], ◌∷◌, ◌++◌, map, reverse, reverse-cons, reverse-append, map-append}
use native.Mathlib.Omega.{arith}
use borrow.Author.Tests.{eq-eqb, eqb-true}
use lib.Dec.{eqb}
use lib.ListN.{length, get_or, length-map, length-reverse, get_or-append, get_or-map}
use lib.Seq.{get_or_at}
use Rattle.kit.proofs.Bools.{never, and_true_l, and_true_r, and_both}
use Rattle.letters.specs.Letters.{complement_of, is_letter, upper_of, same_letter}
use Rattle.letters.specs.Sequences.{all_letters, rev_comp, oriented, letter_at, upper_seq, same_spelling}
use Rattle.kit.proofs.Meaning.{all_append}
use Rattle.letters.proofs.Laws.{complement_zero, closed, double, upper_complement}

-- a list from its end
pub reverse-at : {A : Type 0} (l : List A) (i j : ℕ) (d : A) → i + j + 1 ≡ length l → get_or (reverse l) i d ≡ get_or l j d
reverse-at [] i j d e = absurd (omega arith)
reverse-at (a ∷ l) i zero d e = rw reverse-cons (get_or_at (reverse l) a [] d i (length-reverse l ∙ omega arith))
reverse-at (a ∷ l) i (suc j) d e =
    rw reverse-cons
    (get_or-append (reverse l) (a ∷ []) d i (omega (arith, length-reverse l)) ∙ reverse-at l i j d (omega arith))

-- the reverse complement
pub length-rev_comp : (s : List ℕ) → length (rev_comp s) ≡ length s
length-rev_comp s = length-reverse (map complement_of s) ∙ length-map s complement_of

pub rev_comp-append : (s t : List ℕ) → rev_comp (s ++ t) ≡ rev_comp t ++ rev_comp s
rev_comp-append s t = rw map-append (reverse-append (map complement_of s) (map complement_of t))

rev_comp_cons : (a : ℕ) (s : List ℕ) → rev_comp (a ∷ s) ≡ rev_comp s ++ (complement_of a ∷ [])
rev_comp_cons a s = reverse-cons (complement_of a) (map complement_of s)

pub rev_comp-at : (s : List ℕ) (i : ℕ) → i < length s → get_or (rev_comp s) i 0 ≡ complement_of (get_or s (length s - 1 - i) 0)
rev_comp-at s i h =
    let j : ℕ = length s - 1 - i in
    reverse-at (map complement_of s) i j 0 (omega (arith, length-map s complement_of))
    ∙ (rw complement_zero at (get_or-map complement_of s j 0))

module _ (a : ℕ) (s : List ℕ) (h : all_letters (a ∷ s) ≡ true) where
  first : is_letter a ≡ true
  first = and_true_l (is_letter a) (all_letters s) h

  others : all_letters s ≡ true
  others = and_true_r (is_letter a) (all_letters s) h

pub rev_comp-letters : (s : List ℕ) → all_letters s ≡ true → all_letters (rev_comp s) ≡ true
rev_comp-letters [] h = refl
rev_comp-letters (a ∷ s) h =
    rw (rev_comp_cons, all_append is_letter (rev_comp s) (complement_of a ∷ []), rev_comp-letters s (others a s h), closed a (first a s h))

pub rev_comp-rev_comp : (s : List ℕ) → all_letters s ≡ true → rev_comp (rev_comp s) ≡ s
rev_comp-rev_comp [] h = refl
rev_comp-rev_comp (a ∷ s) h =
    ap rev_comp (rev_comp_cons a s) ∙ rev_comp-append (rev_comp s) (complement_of a ∷ [])
    ∙ ap₂ ◌∷◌ (double a (first a s h)) (rev_comp-rev_comp s (others a s h))

-- upper case
pub length_upper : (s : List ℕ) → length (upper_seq s) ≡ length s
length_upper s = length-map s upper_of

pub upper_append : (s t : List ℕ) → upper_seq (s ++ t) ≡ upper_seq s ++ upper_seq t
upper_append s t = map-append upper_of s t

pub upper_rev_comp : (s : List ℕ) → all_letters s ≡ true → upper_seq (rev_comp s) ≡ rev_comp (upper_seq s)
upper_rev_comp [] h = refl
upper_rev_comp (a ∷ s) h =
    ap upper_seq (rev_comp_cons a s) ∙ upper_append (rev_comp s) (complement_of a ∷ [])
    ∙ ap₂ (λ u b. u ++ (b ∷ [])) (upper_rev_comp s (others a s h)) (sym (upper_complement a (first a s h)))
    ∙ sym (rev_comp_cons (upper_of a) (upper_seq s))

-- what is read in a direction
pub length-oriented : (d : ℕ) (s : List ℕ) → length (oriented d s) ≡ length s
length-oriented d s = elim (eqb d 0) as (λ t. length (cond t s (rev_comp s)) ≡ length s) [ true ↦ refl | false ↦ length-rev_comp s ]

pub oriented-letters : (d : ℕ) (s : List ℕ) → all_letters s ≡ true → all_letters (oriented d s) ≡ true
oriented-letters d s h = elim (eqb d 0) as (λ t. all_letters (cond t s (rev_comp s)) ≡ true) [ true ↦ h | false ↦ rev_comp-letters s h ]

pub oriented-at : (d : ℕ) (s : List ℕ) (i : ℕ) → i < length s → get_or (oriented d s) i 0 ≡ letter_at s d i
oriented-at d s i h =
    elim (eqb d 0) as (λ t. get_or (cond t s (rev_comp s)) i 0 ≡ cond t (get_or s i 0) (complement_of (get_or s (length s - 1 - i) 0)))
    [ true ↦ refl | false ↦ rev_comp-at s i h ]

-- spelling is equality in upper case
same_upper : (s t : List ℕ) → same_spelling s t ≡ true → upper_seq s ≡ upper_seq t
same_upper [] [] e = refl
same_upper [] (b ∷ t) e = never (sym e)
same_upper (a ∷ s) [] e = never (sym e)
same_upper (a ∷ s) (b ∷ t) e =
    ap₂ ◌∷◌ (eqb-true (upper_of a) (upper_of b) (and_true_l (same_letter a b) (same_spelling s t) e))
    (same_upper s t (and_true_r (same_letter a b) (same_spelling s t) e))

upper_same : (s t : List ℕ) → upper_seq s ≡ upper_seq t → same_spelling s t ≡ true
upper_same [] [] e = refl
upper_same [] (b ∷ t) e = cc
upper_same (a ∷ s) [] e = cc
upper_same (a ∷ s) (b ∷ t) e =
    and_both (same_letter a b) (same_spelling s t) (eq-eqb (upper_of a) (upper_of b) (cc)) (upper_same s t (cc))

pub same_spelling_lem : (s t : List ℕ) → (same_spelling s t ≡ true) ↔ (upper_seq s ≡ upper_seq t)
same_spelling_lem s t = (same_upper s t, upper_same s t)

pub same_refl : (s : List ℕ) → same_spelling s s ≡ true
same_refl s = upper_same s s refl

pub same-sym : (s t : List ℕ) → same_spelling s t ≡ true → same_spelling t s ≡ true
same-sym s t h = upper_same t s (sym (same_upper s t h))

pub same_trans : (s t u : List ℕ) → same_spelling s t ≡ true → same_spelling t u ≡ true → same_spelling s u ≡ true
same_trans s t u h g = upper_same s u (same_upper s t h ∙ same_upper t u g)

pub same_length : (s t : List ℕ) → same_spelling s t ≡ true → length s ≡ length t
same_length s t h = sym (length_upper s) ∙ ap length (same_upper s t h) ∙ length_upper t

pub same-append : (s s' t t' : List ℕ) → length s ≡ length s' → same_spelling (s ++ t) (s' ++ t') ≡ (same_spelling s s' && same_spelling t t')
same-append [] [] t t' e = refl
same-append [] (b ∷ s') t t' e = absurd (omega arith)
same-append (a ∷ s) [] t t' e = absurd (omega arith)
same-append (a ∷ s) (b ∷ s') t t' e =
    rw (same-append s s' t t' (omega arith)) (sym (and_assoc (same_letter a b) (same_spelling s s') (same_spelling t t')))

pub same-both : (s s' t t' : List ℕ) → same_spelling s s' ≡ true → same_spelling t t' ≡ true → same_spelling (s ++ t) (s' ++ t') ≡ true
same-both s s' t t' h g = rw (same-append s s' t t' (same_length s s' h)) (and_both (same_spelling s s') (same_spelling t t') h g)

pub same-rev_comp : (s t : List ℕ) → all_letters s ≡ true → all_letters t ≡ true → same_spelling s t ≡ true → same_spelling (rev_comp s) (rev_comp t) ≡ true
same-rev_comp s t h g e =
    upper_same (rev_comp s) (rev_comp t) (upper_rev_comp s h ∙ ap rev_comp (same_upper s t e) ∙ sym (upper_rev_comp t g))
