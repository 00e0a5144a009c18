-- All that a caller of a writer sees: the answer, and the lent room as it finds it.
use Rattle.std.specs.Prelude.{ℕ, cond, List, ◌++◌, ltb, length, drop}
use Rattle.writing.specs.declared.Written.{Written}

pub record Outcome : Type 0 where
  pub answer : Written
  pub room : List ℕ

abbrev pub outcome : Written → List ℕ → Outcome
outcome answer room = record { answer = answer; room = room }

abbrev pub refused : ℕ → List ℕ → Outcome
refused number room = outcome (record { number = number; len = 0 }) room

-- 7 exactly when the text does not fit, else its bytes from the front on, then what stood after them
abbrev pub writing : List ℕ → List ℕ → Outcome
writing text room =
    cond (ltb (length room) (length text)) (refused 7 room)
    (outcome (record { number = 0; len = length text }) (text ++ drop (length text) room))
