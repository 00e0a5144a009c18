-- The laws of writers that may be short of room.
use Prim.Native.Nat.{ℕ, ◌+◌, ◌^◌, ◌≤◌, ◌<◌}
use mathlib.Core.Path.{◌≡◌, refl, sym, ap, ◌∙◌}
use mathlib.Core.List.{List, [], ◌++◌}
use native.Mathlib.Omega.{arith}
use lib.ListN.{length, length-append}
use lib.Seq.{sets, length-sets}
use Rattle.kit.specs.Put.{Put}
use Rattle.kit.proofs.Writes.{sets-append}
use Rattle.writing.specs.Filled.{Filled}

module _ {l bs : List ℕ} {at next : ℕ} where
  -- there is room, and there is not
  pub put-filled : {m : List ℕ} → Put l at bs m next → Filled l at bs m next
  put-filled p = record { place = p.place; bytes = λ h. p.bytes }

  pub not-filled : {m : List ℕ} → next ≡ at + length bs → length l < next → Filled l at bs m next
  not-filled e h = record { place = e; bytes = λ k. absurd (omega arith) }

-- nothing is to be written
pub nothing_filled : {bs : List ℕ} (l : List ℕ) (at : ℕ) → bs ≡ [] → Filled l at bs l at
nothing_filled l at e =
    record { place = omega (arith, ap length e); bytes = λ h. sym (ap (sets l at) e) }

-- one writer and then the next
pub filled-then : {l m k a b : List ℕ} {at p q : ℕ} → Filled l at a m p → Filled m p b k q → Filled l at (a ++ b) k q
filled-then {l} {m} {k} {a} {b} {at} {p} {q} e f =
    record {
      place = omega (arith, e.place, f.place, length-append a b);
      bytes = λ h.
          let x : m ≡ sets l at a = e.bytes (omega (arith, f.place)) in
          let n : length m ≡ length l = ap length x ∙ length-sets l at a in
          f.bytes (omega arith) ∙ ap (λ (y : List ℕ). sets y p b) x ∙ ap (λ (i : ℕ). sets (sets l at a) i b) e.place ∙ sym (sets-append l at a b);
    }

-- a loop that writes `all` into l from `at` on: it left m so far, and `rest` is still to be written, from `place` on
pub record Filling (l : List ℕ) (at : ℕ) (all m : List ℕ) (place : ℕ) (rest : List ℕ) : Type 0 where
  pub same : length m ≡ length l
  pub total : place + length rest ≡ at + length all
  pub left : at + length all ≤ length l → sets m place rest ≡ sets l at all

pub filling_none : (l : List ℕ) (at : ℕ) (all : List ℕ) → Filling l at all l at all
filling_none l at all = record { same = refl; total = refl; left = λ h. refl }

module _ {l : List ℕ} {at : ℕ} {all m : List ℕ} {place : ℕ} where
  -- a turn writes a, and does not leave 64 bits
  pub filling_fits : (a rest : List ℕ) {more : List ℕ} → Filling l at all m place more → more ≡ a ++ rest → at + length all < 2 ^ 64 → place + length a < 2 ^ 64
  filling_fits a rest f e h = omega (arith, f.total, ap length e ∙ length-append a rest)

  pub filling_next : {a rest more k : List ℕ} {next : ℕ} → Filling l at all m place more → more ≡ a ++ rest → Filled m place a k next → length k ≡ length m → Filling l at all k next rest
  filling_next {a} {rest} {more} {k} {next} f e w s =
      let n : length more ≡ length a + length rest = ap length e ∙ length-append a rest in
      record {
        same = s ∙ f.same;
        total = omega (arith, f.total, w.place);
        left = λ h.
            let x : k ≡ sets m place a = w.bytes (omega (arith, f.total, w.place, f.same)) in
            ap (λ (y : List ℕ). sets y next rest) x
            ∙ ap (λ (i : ℕ). sets (sets m place a) i rest) w.place
            ∙ sym (sets-append m place a rest)
            ∙ sym (ap (sets m place) e)
            ∙ f.left h;
      }

  -- nothing is left
  pub filling_all : {rest : List ℕ} → Filling l at all m place rest → rest ≡ [] → Filled l at all m place
  filling_all {rest} f e =
      let n : length rest ≡ 0 = ap length e in
      record {
        place = omega (arith, f.total);
        bytes = λ h. sym (ap (sets m place) e) ∙ f.left (omega (arith, f.total));
      }
