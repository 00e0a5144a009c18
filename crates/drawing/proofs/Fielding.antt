-- The fields of a line, one by one.
use Prim.Native.Nat.{ℕ, suc, ◌+◌, ◌-◌, ◌≤◌, ◌<◌}
use mathlib.Core.Path.{◌≡◌}
use mathlib.Core.List.{List, [], ◌∷◌, ◌++◌}
use native.Mathlib.Nat.{sub-zero}
use native.Mathlib.Omega.{arith}
use Rattle.text.specs.Pieces.{field}
use Rattle.drawing.specs.Capped.{Open}
use Rattle.drawing.specs.Drawn.{fields_text}
use Rattle.drawing.proofs.Capping.{Capping, capping_none}

-- the first n fields, one by one
module _ (n : ℕ) (line : List ℕ) where
  pub fields_none : {stop : ℕ} {l : List ℕ} {at : ℕ} → Open stop l at → Capping stop l at (fields_text 0 n line) l at (fields_text 0 (n - 0) line)
  fields_none o = rw (sub-zero n) (capping_none (fields_text 0 n line) o)

  pub fields_more : (k : ℕ) → k < n → fields_text k (n - k) line ≡ (field k line ++ (9 ∷ [])) ++ fields_text (k + 1) (n - (k + 1)) line
  fields_more k h =
      let z : n - k ≡ suc (n - (k + 1)) = omega arith in
      rw z

  pub fields_end : (k : ℕ) → n ≤ k → fields_text k (n - k) line ≡ []
  fields_end k h =
      let z : n - k ≡ 0 = omega arith in
      rw z
