-- No name, as its reader says it, the directions of a step, and a step without a byte.
use Prim.Native.Nat.{ℕ, ◌≤◌}
use mathlib.Core.Path.{◌≡◌, refl, sym, ◌∙◌}
use mathlib.Core.Bool.{Bool, true, false, cond, not}
use mathlib.Core.List.{List, [], ◌∷◌}
use lib.ListN.{length}
use Rattle.text.specs.Steps.{path_step_number}
use native.Mathlib.Omega.{arith}
use borrow.Author.Tests.{eq-eqb}
use Rattle.text.specs.Names.{is_name, name_id}
use Rattle.text.proofs.Naming.{id-zero}

pub no_name : (bs : List ℕ) → name_id bs ≡ 0 → not (is_name bs) ≡ true
no_name bs e = sym (id-zero bs) ∙ eq-eqb (name_id bs) 0 e

-- what may be packed
pub dir_small : (t : Bool) → cond t 1 0 ≤ 1
dir_small true = omega arith
dir_small false = omega arith

-- a path's step without a byte
pub path_empty : (bs : List ℕ) → length bs ≡ 0 → path_step_number bs ≡ 1
path_empty [] h = refl
path_empty (b ∷ bs) h = absurd (omega arith)
