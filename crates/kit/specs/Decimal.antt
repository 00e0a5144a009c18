-- Numbers in decimal: the shortest run of digits, and what a run of digits says.
use Rattle.std.specs.Prelude.{ℕ, zero, suc, ◌+◌, ◌-◌, ◌*◌, ◌/◌, ◌%◌, Bool, true, false, ◌&&◌, List, [], ◌∷◌, ◌++◌, ltb, leb}

-- k bounds the number of digits; the Bool says whether n is below ten
abbrev pub digits : ℕ → Bool → ℕ → List ℕ
digits zero b n = []
digits (suc k) true n = (48 + n) ∷ []
digits (suc k) false n = digits k (ltb (n / 10) 10) (n / 10) ++ ((48 + (n % 10)) ∷ [])

-- n in decimal
unfoldable pub decimal : ℕ → List ℕ
decimal n = digits (suc n) (ltb n 10) n

-- a byte is one of 0 to 9
abbrev pub is_digit : ℕ → Bool
is_digit b = leb 48 b && leb b 57

-- what a run of digits says after those that say n
abbrev pub value_from : ℕ → List ℕ → ℕ
value_from n [] = n
value_from n (b ∷ bs) = value_from (n * 10 + (b - 48)) bs

abbrev pub value : List ℕ → ℕ
value bs = value_from 0 bs
