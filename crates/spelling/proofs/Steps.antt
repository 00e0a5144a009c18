-- The turns of the loops along a walk.
use Prim.Native.Nat.{ℕ, ◌+◌, ◌-◌, ◌≤◌, ◌<◌}
use mathlib.Core.Path.{◌≡◌, refl, ap}
use mathlib.Core.Bool.{Bool, true, false, cond}
use mathlib.Core.List.{List, [], ◌∷◌}
use native.Mathlib.Omega.{arith}
use borrow.Author.Tests.{le-leb, lt-leb, leb-true, leb-false}
use lib.Dec.{leb}
use lib.ListN.{length, drop, get_or}
use Rattle.kit.specs.Loops.{sum}
use Rattle.std.specs.Prelude.{Option, Some, None}
use Rattle.kit.proofs.Steps.{sum_more, sum_end}
use Rattle.handle.specs.declared.Handle.{Handle}
use Rattle.handle.specs.Edge.{edge}
use Rattle.store.specs.Graph.{handle}
use Rattle.store.specs.declared.Link.{Link}
use Rattle.store.specs.Views.{linked}
use Rattle.affix.specs.Prefix.{handles_of}
use Rattle.affix.proofs.Runs.{left-handle, no_handle}
use Rattle.spelling.specs.Spelling.{gap_after, first_gap}
use Rattle.spelling.specs.Measure.{within}

-- what is left of the search for a gap, from place i on
abbrev pub gap_from : List Link → List ℕ → ℕ → Option ℕ
gap_from links walk i = gap_after links i (handle (get_or walk (i - 1) 0)) (drop i (handles_of walk))

module _ (links : List Link) where
  pub gap_first : (walk : List ℕ) → gap_from links walk 1 ≡ first_gap links (handles_of walk)
  gap_first [] = refl
  gap_first (n ∷ walk) = refl

  module _ (walk : List ℕ) (i : ℕ) where
    pub gap_end : length walk ≤ i → gap_from links walk i ≡ None
    gap_end h = rw (no_handle walk i h)

    module _ (h : i < length walk) where
      pub gap_here : linked (edge (handle (get_or walk (i - 1) 0)) (handle (get_or walk i 0))) links ≡ false → gap_from links walk i ≡ Some i
      gap_here t = rw (left-handle walk i h, t)

      pub gap_later : linked (edge (handle (get_or walk (i - 1) 0)) (handle (get_or walk i 0))) links ≡ true → gap_from links walk i ≡ gap_from links walk (i + 1)
      gap_later t =
          let e : i ≡ i + 1 - 1 = omega arith in
          rw (left-handle walk i h, t) (ap (λ (k : ℕ). gap_after links (i + 1) (handle (get_or walk k 0)) (drop (i + 1) (handles_of walk))) e)

-- what the answer of a measure tells
module _ (room n : ℕ) where
  pub measure_fits : (k : ℕ) → within room n ≡ Some k → (k ≡ n) × (n ≤ room)
  measure_fits k e = by (leb n room) refl e
    where
      by : (b : Bool) → leb n room ≡ b → cond b (Some n) None ≡ Some k → (k ≡ n) × (n ≤ room)
      by true t q = (cc, leb-true n room t)
      by false t q = let z : ◌≡◌ {A = ℕ} 0 1 = cc in absurd (omega arith)

  pub measure_exceeds : within room n ≡ None → room < n
  measure_exceeds e = by (leb n room) refl e
    where
      by : (b : Bool) → leb n room ≡ b → cond b (Some n) None ≡ None → room < n
      by true t q = let z : ◌≡◌ {A = ℕ} 0 1 = cc in absurd (omega arith)
      by false t q = leb-false n room t

-- a measure along a walk, up to a room: n is the sum of what the first i steps take
pub record Measured (f : Handle → ℕ) (room : ℕ) (walk : List ℕ) (n i : ℕ) : Type 0 where
  pub along : i ≤ length walk
  pub fits : n ≤ room
  pub rest : n + sum f (drop i (handles_of walk)) ≡ sum f (handles_of walk)

module _ {f : Handle → ℕ} {room : ℕ} {walk : List ℕ} {n i : ℕ} (m : Measured f room walk n i) where
  pub measured_all : length walk ≤ i → Some n ≡ within room (sum f (handles_of walk))
  measured_all h =
      let e : n ≡ sum f (handles_of walk) = omega (arith, m.rest, sum_end f (no_handle walk i h)) in
      rw (← e, le-leb n room m.fits)

  module _ (k : ℕ) (e : k ≡ f (handle (get_or walk i 0))) (h : i < length walk) where
    more : n + k + sum f (drop (i + 1) (handles_of walk)) ≡ sum f (handles_of walk)
    more = omega (arith, m.rest, sum_more f (left-handle walk i h))

    pub measured_next : k ≤ room - n → Measured f room walk (n + k) (i + 1)
    measured_next l = record { along = omega arith; fits = omega (arith, m.fits); rest = more }

    pub too_long : room - n < k → None ≡ within room (sum f (handles_of walk))
    too_long l =
        let g : room < sum f (handles_of walk) = omega (arith, more) in
        rw (lt-leb (sum f (handles_of walk)) room g)
