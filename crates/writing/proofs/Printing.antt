-- Measured in an empty part of the room, then refused or written.
use Prim.Native.Nat.{ℕ, ◌+◌, ◌≤◌, ◌<◌}
use mathlib.Core.Path.{◌≡◌, refl, ap, ap₂, ◌∙◌}
use mathlib.Core.List.{List, [], ◌∷◌, ◌++◌}
use native.Mathlib.Omega.{arith}
use borrow.Author.Tests.{lt-ltb, le-ltb}
use lib.ListN.{length, drop}
use lib.Seq.{sets}
use Rattle.kit.proofs.Writes.{sets-front}
use Rattle.writing.specs.Filled.{Filled}
use Rattle.writing.specs.Outcome.{outcome, refused, writing}

empty : (l : List ℕ) → length l ≡ 0 → l ≡ []
empty [] e = refl
empty (a ∷ l) e = absurd (omega arith)

-- what came back of the empty part stands before the room again; the text took n bytes there
module _ (text room part : List ℕ) (z : length part ≡ 0) (n : ℕ) (e : n ≡ 0 + length text) where
  pub too_short : length (part ++ room) < n → refused 7 (part ++ room) ≡ writing text room
  too_short h =
      let p = empty part z in
      let q : length (part ++ room) ≡ length room = ap (λ (l : List ℕ). length (l ++ room)) p in
      rw (lt-ltb (length room) (length text) (omega arith)) (ap (λ (l : List ℕ). refused 7 (l ++ room)) p)

  pub printed : {m : List ℕ} {k : ℕ} → n ≤ length (part ++ room) → Filled (part ++ room) 0 text m k → outcome (record { number = 0; len = n }) m ≡ writing text room
  printed {m} {k} h w =
      let p = empty part z in
      let q : length (part ++ room) ≡ length room = ap (λ (l : List ℕ). length (l ++ room)) p in
      let f : length text ≤ length room = omega arith in
      let b : m ≡ text ++ drop (length text) room = w.bytes (omega (arith, w.place)) ∙ ap (λ (l : List ℕ). sets (l ++ room) 0 text) p ∙ sets-front room text f in
      rw (le-ltb (length room) (length text) f)
      (ap₂ (λ (x : ℕ) (l : List ℕ). outcome (record { number = 0; len = x }) l) (omega arith) b)
