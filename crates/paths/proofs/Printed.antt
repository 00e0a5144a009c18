-- What a caller sees, as far as the tests have come.
use Prim.Native.Nat.{ℕ, ◌+◌, ◌≤◌}
use mathlib.Core.Path.{◌≡◌, refl, ap₂, ◌∙◌, subst}
use mathlib.Core.Bool.{cond, not}
use mathlib.Core.List.{List, [], ◌∷◌, ◌++◌}
use native.Mathlib.Omega.{arith}
use borrow.Author.Tests.{eq-eqb, le-ltb}
use lib.Dec.{eqb}
use lib.ListN.{length, drop, length-append}
use Rattle.kit.proofs.Writes.{sets-front}
use Rattle.writing.specs.Outcome.{outcome, refused, writing}
use Rattle.drawing.specs.Capped.{capped, Capped}

empty : (l : List ℕ) → length l ≡ 0 → l ≡ []
empty [] h = refl
empty (x ∷ l) h = absurd (omega arith)

module _ (n : ℕ) (text room : List ℕ) where
  -- measuring left nothing in front of the room
  module _ (z : n ≡ 0) (front : List ℕ) (f : length front ≡ 0) {len : ℕ} (e : len ≡ capped (length room + 1) (0 + length text)) where
    pub printed : {m : List ℕ} {next : ℕ} → len ≤ length (front ++ room) → Capped (length room + 1) (front ++ room) 0 text m next → outcome (record { number = 0; len = len }) m ≡ cond (not (eqb n 0)) (refused n room) (writing text room)
    printed {m} {next} h w =
        let k : len ≡ length text = omega (arith, length-append front room) in
        let s : length text ≤ length room = omega (arith, length-append front room) in
        let v : Capped (length room + 1) room 0 text m next = subst (λ (l : List ℕ). Capped (length room + 1) (l ++ room) 0 text m next) (empty front f) w in
        let b : m ≡ text ++ drop (length text) room = v.bytes (omega (arith, v.place)) ∙ sets-front room text s in
        rw (eq-eqb n 0 z, le-ltb (length room) (length text) s)
        (ap₂ (λ (i : ℕ) (l : List ℕ). outcome (record { number = 0; len = i }) l) k b)
