-- The laws of the header: a turn of the search for the first line that passes.
use mathlib.Core.Path.{◌≡◌}
use mathlib.Core.Bool.{Bool, true, false}
use mathlib.Core.List.{List, ◌∷◌}
use Rattle.kit.specs.Loops.{first_or}

-- m is what the search is to find: the first element passes, or it does not
module _ {A : Type 0} (d : A) (p : A → Bool) {a m : A} {rs rest : List A} (e : rs ≡ a ∷ rest) (i : first_or d p rs ≡ m) where
  pub first-here : p a ≡ true → a ≡ m
  first-here t = rw (e, t) at i

  pub first-later : p a ≡ false → first_or d p rest ≡ m
  first-later t = rw (e, t) at i
