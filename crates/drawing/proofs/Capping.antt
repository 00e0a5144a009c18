-- The laws of writers that count no further than `stop`.
use Prim.Native.Nat.{ℕ, ◌+◌, ◌≤◌, ◌<◌}
use mathlib.Core.Path.{◌≡◌, refl, sym, ap, ◌∙◌, subst}
use mathlib.Core.Bool.{Bool, true, false}
use mathlib.Core.List.{List, [], ◌++◌}
use native.Mathlib.Omega.{arith}
use borrow.Author.Tests.{leb-true, leb-false}
use lib.Dec.{leb}
use lib.ListN.{length, length-append}
use lib.Seq.{sets, length-sets}
use Rattle.kit.proofs.Writes.{sets-append}
use Rattle.writing.specs.Filled.{Filled}
use Rattle.drawing.specs.Capped.{capped, Open, Capped}

-- what is counted no further may be counted on from there
capped_low : (stop n : ℕ) → n ≤ stop → capped stop n ≡ n
capped_low stop n h = omega arith

capped_high : (stop n : ℕ) → stop ≤ n → capped stop n ≡ stop
capped_high stop n h = omega arith

capped_add : (stop n k : ℕ) → capped stop (capped stop n + k) ≡ capped stop (n + k)
capped_add stop n k = by (leb n stop) refl
  where
    by : (b : Bool) → leb n stop ≡ b → capped stop (capped stop n + k) ≡ capped stop (n + k)
    by true e = ap (λ (i : ℕ). capped stop (i + k)) (capped_low stop n (leb-true n stop e))
    by false e =
        let h : stop < n = leb-false n stop e in
        ap (λ (i : ℕ). capped stop (i + k)) (capped_high stop n (omega arith)) ∙ capped_high stop (stop + k) (omega arith) ∙ sym (capped_high stop (n + k) (omega arith))

module _ {stop : ℕ} {l : List ℕ} {at : ℕ} where
  -- a writer that counts on, and then no further
  pub filled-capped : {bs m : List ℕ} {end next : ℕ} → Filled l at bs m end → length l < stop → next ≡ capped stop end → Capped stop l at bs m next
  filled-capped w h e = record { place = e ∙ ap (capped stop) w.place; bytes = λ k. w.bytes (omega arith) }

  pub capped_none : at ≤ stop → Capped stop l at [] l at
  capped_none h = record { place = omega arith; bytes = λ k. refl }

  pub capped_is : {a b m : List ℕ} {next : ℕ} → a ≡ b → Capped stop l at a m next → Capped stop l at b m next
  capped_is {a} {b} {m} {next} e w = subst (λ (x : List ℕ). Capped stop l at x m next) e w

  -- one writer and then the next
  pub capped-then : {a b m k : List ℕ} {p q : ℕ} → length l < stop → Capped stop l at a m p → Capped stop m p b k q → Capped stop l at (a ++ b) k q
  capped-then {a} {b} {m} {k} {p} {q} s e f =
      record {
        place = omega (arith, e.place, f.place, length-append a b);
        bytes = λ h.
            let x : m ≡ sets l at a = e.bytes (omega (arith, f.place)) in
            let n : length m ≡ length l = ap length x ∙ length-sets l at a in
            let y : p ≡ at + length a = omega (arith, e.place, f.place) in
            f.bytes (omega arith) ∙ ap (λ (z : List ℕ). sets z p b) x ∙ ap (λ (i : ℕ). sets (sets l at a) i b) y ∙ sym (sets-append l at a b);
      }

  pub still_open : {bs m : List ℕ} {next : ℕ} → Open stop l at → Capped stop l at bs m next → length m ≡ length l → Open stop m next
  still_open o w e = record { before = omega (arith, o.before); small = o.small; here = omega (arith, w.place) }

-- a loop that writes `all` into l from `at` on: it left m so far, and `rest` is still to be written, from `place` on
pub record Capping (stop : ℕ) (l : List ℕ) (at : ℕ) (all m : List ℕ) (place : ℕ) (rest : List ℕ) : Type 0 where
  pub room : Open stop m place
  pub same : length m ≡ length l
  pub total : capped stop (place + length rest) ≡ capped stop (at + length all)
  pub left : at + length all ≤ length l → sets m place rest ≡ sets l at all

pub capping_none : {stop : ℕ} {l : List ℕ} {at : ℕ} (all : List ℕ) → Open stop l at → Capping stop l at all l at all
capping_none all o = record { room = o; same = refl; total = refl; left = λ h. refl }

module _ {stop : ℕ} {l : List ℕ} {at : ℕ} {all m : List ℕ} {place : ℕ} where
  -- a turn writes a
  pub capping_next : {a rest more k : List ℕ} {next : ℕ} → Capping stop l at all m place more → more ≡ a ++ rest → Capped stop m place a k next → length k ≡ length m → Capping stop l at all k next rest
  capping_next {a} {rest} {more} {k} {next} f e w s =
      let n : length more ≡ length a + length rest = ap length e ∙ length-append a rest in
      record {
        room = still_open f.room w s;
        same = s ∙ f.same;
        total =
            let i : place + length a + length rest ≡ place + length more = omega arith in
            ap (λ (j : ℕ). capped stop (j + length rest)) w.place ∙ capped_add stop (place + length a) (length rest) ∙ ap (capped stop) i ∙ f.total;
        left = λ h.
            let i : next ≡ place + length a = omega (arith, f.total, w.place, f.same, f.room.before) in
            let x : k ≡ sets m place a = w.bytes (omega (arith, f.total, f.same, f.room.before)) in
            ap (λ (y : List ℕ). sets y next rest) x
            ∙ ap (λ (j : ℕ). sets (sets m place a) j rest) i
            ∙ sym (sets-append m place a rest)
            ∙ sym (ap (sets m place) e)
            ∙ f.left h;
      }

  -- nothing is left, or the place is at stop
  pub capping_all : {rest : List ℕ} → Capping stop l at all m place rest → rest ≡ [] → Capped stop l at all m place
  capping_all {rest} f e =
      let n : length rest ≡ 0 = ap length e in
      record {
        place = omega (arith, f.total, f.room.here);
        bytes = λ h. sym (ap (sets m place) e) ∙ f.left (omega (arith, f.total, f.same, f.room.before));
      }

  pub capping_stop : {rest : List ℕ} → Capping stop l at all m place rest → stop ≤ place → Capped stop l at all m stop
  capping_stop f h =
      record { place = omega (arith, f.total, f.room.here); bytes = λ k. absurd (omega (arith, f.same, f.room.before)) }
