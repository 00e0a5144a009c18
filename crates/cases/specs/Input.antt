-- Numbers and words as they are read.
use Rattle.std.specs.Prelude.{ℕ, ◌+◌, ◌*◌, Bool, true, false, cond, ◌&&◌, List, [], ◌∷◌, eqb, leb, Option, Some, None}

-- the largest number, and a number with a digit after it where that fits
abbrev pub most : ℕ
most = 18446744073709551615

abbrev pub grown : ℕ → ℕ → Option ℕ
grown n d = cond (leb d 9 && leb (n * 10 + d) most) (Some (n * 10 + d)) None

abbrev pub same_word : List ℕ → List ℕ → Bool
same_word [] [] = true
same_word [] (b ∷ m) = false
same_word (a ∷ l) [] = false
same_word (a ∷ l) (b ∷ m) = eqb a b && same_word l m
