-- The items of a case, one after another, as a loop over a shape meets them.
use Prim.Native.Nat.{ℕ, ◌+◌, ◌-◌, ◌≤◌, ◌<◌}
use mathlib.Core.Path.{◌≡◌, refl, sym, ap, ◌∙◌}
use mathlib.Core.Bool.{Bool, true, false, cond}
use mathlib.Core.List.{List, [], ◌∷◌}
use native.Mathlib.Nat.{add-zero}
use native.Mathlib.Numerals.{add-one}
use native.Mathlib.Omega.{arith}
use borrow.Author.Tests.{leb-true, leb-false}
use lib.Dec.{leb}
use lib.ListN.{length, take, drop, get_or, length-drop, length-take, drop_of_length-le}
use lib.Seq.{drop-cons, drop-drop, drop-nil, get_or-drop, get_or-take, take_all}
use Rattle.std.specs.Prelude.{Some, None}
use Rattle.cases.specs.declared.parts.Kind.{Kind}
use Rattle.cases.specs.Parts.{kind_of, size_of, item_end, rest_of, elements_of}

-- the number at a place is the first of what is left there
pub first-at : (xs : List ℕ) (at : ℕ) → get_or (drop at xs) 0 0 ≡ get_or xs at 0
first-at xs at = get_or-drop at xs 0 0 ∙ ap (λ (n : ℕ). get_or xs n 0) (add-zero at)

module _ (kind : Kind) (xs : List ℕ) where
  -- what the answer tells
  inside : (b : Bool) (at n k : ℕ) → cond b (Some (at + n)) None ≡ Some k → (b ≡ true) × (k ≡ at + n)
  inside true at n k e = (refl, cc)
  inside false at n k e = let z : ◌≡◌ {A = ℕ} 0 1 = cc in absurd (omega arith)

  past : (b : Bool) (k : ℕ) → cond b (Some k) None ≡ None → b ≡ false
  past true k e = let z : ◌≡◌ {A = ℕ} 0 1 = cc in absurd (omega arith)
  past false k e = refl

  pub at-inside : (at k : ℕ) → item_end kind at xs ≡ Some k → (size_of kind xs ≤ length xs) × (k ≡ at + size_of kind xs)
  at-inside at k e =
      let i = inside (leb (size_of kind xs) (length xs)) at (size_of kind xs) k e in
      (leb-true (size_of kind xs) (length xs) i.0, i.1)

  pub nothing_past : (at : ℕ) → item_end kind at xs ≡ None → length xs < size_of kind xs
  nothing_past at e = leb-false (size_of kind xs) (length xs) (past (leb (size_of kind xs) (length xs)) (at + size_of kind xs) e)

-- a shape at its place i
pub kinds_more : (shape : List ℕ) (i : ℕ) → i < length shape → drop i shape ≡ get_or shape i 0 ∷ drop (i + 1) shape
kinds_more shape i h = rw (add-one, drop-cons shape i 0 h)

pub rest_nil : (shape : List ℕ) → rest_of shape [] ≡ []
rest_nil [] = refl
rest_nil (s ∷ ss) = ap (λ (l : List ℕ). rest_of ss l) (drop-nil (size_of (kind_of s) [])) ∙ rest_nil ss

module _ (xs shape : List ℕ) (k i at : ℕ) where
  before_more : i < k → i < length shape → drop i (take k shape) ≡ get_or shape i 0 ∷ drop (i + 1) (take k shape)
  before_more h j = kinds_more (take k shape) i (omega (arith, length-take k shape)) ∙ rw (get_or-take k shape i 0 h)

  -- the item fits, and the next one begins where it ends
  pub rest_more : (e : ℕ) → i < k → i < length shape → item_end (kind_of (get_or shape i 0)) at (drop at xs) ≡ Some e → rest_of (drop (i + 1) (take k shape)) (drop e xs) ≡ rest_of (drop i (take k shape)) (drop at xs)
  rest_more e h j t =
      let s = size_of (kind_of (get_or shape i 0)) (drop at xs) in
      let n : drop s (drop at xs) ≡ drop e xs = drop-drop s at xs ∙ ap (λ (m : ℕ). drop m xs) (sym (at-inside (kind_of (get_or shape i 0)) (drop at xs) at e t).1) in
      sym (ap (λ (l : List ℕ). rest_of l (drop at xs)) (before_more h j) ∙ ap (λ (l : List ℕ). rest_of (drop (i + 1) (take k shape)) l) n)

  -- it does not, and nothing is left
  pub rest_past : i < k → i < length shape → item_end (kind_of (get_or shape i 0)) at (drop at xs) ≡ None → drop (length xs) xs ≡ rest_of (drop i (take k shape)) (drop at xs)
  rest_past h j t =
      let s = size_of (kind_of (get_or shape i 0)) (drop at xs) in
      let n : drop s (drop at xs) ≡ [] = drop_of_length-le (drop at xs) {i = s} (omega (arith, nothing_past (kind_of (get_or shape i 0)) (drop at xs) at t)) in
      drop_of_length-le xs {i = length xs} (omega arith)
      ∙ sym (ap (λ (l : List ℕ). rest_of l (drop at xs)) (before_more h j) ∙ ap (λ (l : List ℕ). rest_of (drop (i + 1) (take k shape)) l) n ∙ rest_nil (drop (i + 1) (take k shape)))

  pub rest_end : length shape ≤ i → drop at xs ≡ rest_of (drop i (take k shape)) (drop at xs)
  rest_end h = rw (drop_of_length-le (take k shape) {i = i} (omega (arith, length-take k shape)))

  pub rest_all : k ≤ i → drop at xs ≡ rest_of (drop i (take k shape)) (drop at xs)
  rest_all h = rw (drop_of_length-le (take k shape) {i = i} (omega (arith, length-take k shape)))

module _ (xs : List ℕ) (at : ℕ) where
  -- the elements of an array: none past the end, all that is left, or as many as its length says
  pub elements_none : length xs ≤ at → [] ≡ elements_of (drop at xs)
  elements_none h = rw (drop_of_length-le xs {i = at} h)

  pub elements_left : length xs - (at + 1) ≤ get_or xs at 0 → take (length xs - (at + 1)) (drop (at + 1) xs) ≡ elements_of (drop at xs)
  elements_left h =
      rw (first-at, drop-drop)
      (
      take_all (length xs - (at + 1)) (drop (at + 1) xs) (omega (arith, length-drop (at + 1) xs))
      ∙ sym (take_all (get_or xs at 0) (drop (at + 1) xs) (omega (arith, length-drop (at + 1) xs)))
      )

  pub elements_all : (n : ℕ) → n ≡ get_or xs at 0 → take n (drop (at + 1) xs) ≡ elements_of (drop at xs)
  elements_all n e = rw (first-at, drop-drop, e)
