-- What the plain loops over records compute: the standard library's functions, where it has them. A test is a Bool, so
-- that each of these computes on an example.
use Rattle.std.specs.Prelude.{ℕ, ◌+◌, Bool, true, cond, not, ◌&&◌, List, [], ◌∷◌, ◌++◌, map, take, drop, Option}
use Rattle.std.specs.List.{list_all, list_any, filter, position_from}

module _ {A : Type 0} where
  -- the place of the first element that passes the test, where the list's first has place i
  abbrev pub find_from : (A → Bool) → ℕ → List A → Option ℕ
  find_from p i rs = position_from p i rs

  abbrev pub find : (A → Bool) → List A → Option ℕ
  find p rs = find_from p 0 rs

  -- the first element that passes, or d where none does
  abbrev pub first_or : A → (A → Bool) → List A → A
  first_or d p [] = d
  first_or d p (a ∷ rs) = cond (p a) a (first_or d p rs)

  -- every element passes; some element passes
  abbrev pub all : (A → Bool) → List A → Bool
  all p rs = list_all p rs

  abbrev pub any : (A → Bool) → List A → Bool
  any p rs = list_any p rs

  -- no element is the same as a later one
  abbrev pub distinct : (A → A → Bool) → List A → Bool
  distinct same [] = true
  distinct same (a ∷ rs) = not (any (same a) rs) && distinct same rs

  -- the sum of a number that each element has, and how many elements pass
  abbrev pub sum : (A → ℕ) → List A → ℕ
  sum f [] = 0
  sum f (a ∷ rs) = f a + sum f rs

  abbrev pub count : (A → Bool) → List A → ℕ
  count p rs = sum (λ a. cond (p a) 1 0) rs

  -- mapped from place i on: what is left to do of a map in place
  abbrev pub map_from : (A → A) → ℕ → List A → List A
  map_from f i rs = take i rs ++ map f (drop i rs)

  -- the elements that pass, in their order
  abbrev pub keep : (A → Bool) → List A → List A
  keep p rs = filter p rs

  -- what each element gives, one after another
  abbrev pub lines : {B : Type 0} → (A → List B) → List A → List B
  lines f [] = []
  lines f (a ∷ rs) = f a ++ lines f rs
