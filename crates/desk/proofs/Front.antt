-- A list put at the front of another, one element after another.
use Prim.Native.Nat.{ℕ, suc, ◌+◌, ◌≤◌, ◌<◌}
use mathlib.Core.Path.{◌≡◌, refl, sym, ap, ◌∙◌}
use mathlib.Core.List.{List}
use native.Mathlib.Omega.{arith}
use lib.ListN.{length, drop, get_or, set, length-set, drop_of_length-le}
use lib.Seq.{sets}
use Rattle.kit.proofs.Steps.{left_at}

-- the first i elements of s are there
pub record Fronting (s to₀ to : List ℕ) (i : ℕ) : Type 0 where
  pub same : length to ≡ length to₀
  pub along : i ≤ length s
  pub left : sets to i (drop i s) ≡ sets to₀ 0 s

pub fronting_none : (s to : List ℕ) → Fronting s to to 0
fronting_none s to = record { same = refl; along = omega arith; left = refl }

module _ {s to₀ to : List ℕ} {i : ℕ} (p : Fronting s to₀ to i) where
  pub fronting_next : (x : ℕ) → x ≡ get_or s i 0 → i < length s → Fronting s to₀ (set to i x) (i + 1)
  fronting_next x e h =
      let q : i + 1 ≡ suc i = omega arith in
      let n : sets (set to i x) (i + 1) (drop (i + 1) s) ≡ sets to i (drop i s) = rw (left_at s i 0 h, q, e) in
      record { same = simp length-set p.same; along = omega arith; left = n ∙ p.left }

  pub fronting_all : length s ≤ i → to ≡ sets to₀ 0 s
  fronting_all h = sym (ap (sets to i) (drop_of_length-le s {i = i} h)) ∙ p.left
