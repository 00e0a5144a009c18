-- What a refused text gives: 01 "Numbers that say no".
use Rattle.std.specs.Prelude.{ℕ, cond, List, [], ◌∷◌, eqb}

-- the first of two numbers that is not 0, which is no refusal
abbrev pub or_number : ℕ → ℕ → ℕ
or_number n m = cond (eqb n 0) m n

-- the first that is not 0 among what each piece gives
abbrev pub first_number : (List ℕ → ℕ) → List (List ℕ) → ℕ
first_number f [] = 0
first_number f (p ∷ ps) = or_number (f p) (first_number f ps)
