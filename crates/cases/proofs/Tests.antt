-- What is wrong with a case: what the bytes say, and one turn of the loop over a shape.
use Prim.Native.Nat.{ℕ, ◌+◌, ◌≤◌, ◌<◌}
use mathlib.Core.Path.{◌≡◌, sym, ap, ◌∙◌}
use mathlib.Core.Bool.{true, false}
use mathlib.Core.List.{List}
use native.Mathlib.Omega.{arith}
use borrow.Author.Tests.{le-leb, lt-leb}
use lib.ListN.{length, drop, get_or, length-drop, drop_of_length-le}
use lib.Seq.{drop-drop}
use Rattle.std.specs.Prelude.{Option, Some, None}
use Rattle.kit.specs.Loops.{any}
use Rattle.cases.specs.declared.parts.Kind.{Kind}
use Rattle.cases.specs.declared.faults.Fault.{Fault}
use Rattle.cases.specs.declared.faults.Fault.TheVariants.{BadNumbers, BadEnd, BadLetters}
use Rattle.cases.specs.Parts.{kind_of, size_of, item_end, elements_of}
use Rattle.cases.specs.Faults.{above_byte, byte_fault, item_fault, sooner_of, fault_from}
use Rattle.cases.proofs.Items.{at-inside, nothing_past, kinds_more}

pub bytes_bad : (xs : List ℕ) → any above_byte xs ≡ true → Some BadLetters ≡ byte_fault xs
bytes_bad xs e = rw e

pub bytes-fine : (xs : List ℕ) → any above_byte xs ≡ false → None ≡ byte_fault xs
bytes-fine xs e = rw e

module _ (worst : Option Fault) (shape xs : List ℕ) (i at : ℕ) (kind : Kind) (is : kind ≡ kind_of (get_or shape i 0)) where
  -- the item fits; es are its elements, f its own fault, w the worst with it
  pub fault-more : (e : ℕ) (w f : Option Fault) (es : List ℕ) → i < length shape → item_end kind at (drop at xs) ≡ Some e → es ≡ elements_of (drop at xs) → f ≡ item_fault kind es → w ≡ sooner_of worst f → fault_from w (drop (i + 1) shape) (drop e xs) ≡ fault_from worst (drop i shape) (drop at xs)
  fault-more e w f es h t u v z =
      let s = size_of kind (drop at xs) in
      let g = at-inside kind (drop at xs) at e t in
      let n : drop s (drop at xs) ≡ drop e xs = drop-drop s at xs ∙ ap (λ (m : ℕ). drop m xs) (sym g.1) in
      let m : sooner_of worst (item_fault kind (elements_of (drop at xs))) ≡ w = sym (z ∙ ap (λ (k : Option Fault). sooner_of worst k) (v ∙ ap (λ (l : List ℕ). item_fault kind l) u)) in
      sym (
      ap (λ (l : List ℕ). fault_from worst l (drop at xs)) (kinds_more shape i h)
      ∙ rw (← is, le-leb s (length (drop at xs)) g.0)
      (
      ap (λ (k : Option Fault). fault_from k (drop (i + 1) shape) (drop s (drop at xs))) m
      ∙ ap (λ (l : List ℕ). fault_from w (drop (i + 1) shape) l) n
      )
      )

  pub fault_past : i < length shape → item_end kind at (drop at xs) ≡ None → Some BadNumbers ≡ fault_from worst (drop i shape) (drop at xs)
  fault_past h t =
      let s = size_of kind (drop at xs) in
      sym (
      ap (λ (l : List ℕ). fault_from worst l (drop at xs)) (kinds_more shape i h)
      ∙ rw (← is, lt-leb s (length (drop at xs)) (nothing_past kind (drop at xs) at t))
      )

module _ (worst : Option Fault) (shape xs : List ℕ) (i at : ℕ) (h : length shape ≤ i) where
  pub fault-left : at < length xs → Some BadEnd ≡ fault_from worst (drop i shape) (drop at xs)
  fault-left k = rw (drop_of_length-le shape {i = i} h, le-leb 1 (length (drop at xs)) (omega (arith, length-drop at xs)))

  pub fault_none : length xs ≤ at → worst ≡ fault_from worst (drop i shape) (drop at xs)
  fault_none k = rw (drop_of_length-le shape {i = i} h, lt-leb 1 (length (drop at xs)) (omega (arith, length-drop at xs)))
