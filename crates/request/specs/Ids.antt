-- The protected list: one id to a line (docs/DECISIONS.md, F17), and its 2 and 7.
use Rattle.std.specs.Prelude.{ℕ, Bool, cond, not, ◌&&◌, List, [], ◌∷◌, eqb, ltb, length, Result, Ok, Err}
use Rattle.std.proofs.lemmas.List.Edits.{sets}
use Rattle.kit.specs.Loops.{any, lines}
use Rattle.text.specs.Names.{name_id}
use Rattle.kit.specs.declared.Refusal.{Refusal}
use Rattle.kit.specs.Refusal.{number_of}

abbrev pub is_empty : List ℕ → Bool
is_empty line = eqb (length line) 0

-- an empty line says nothing; any other is an id
abbrev pub is_no_id : List ℕ → Bool
is_no_id line = not (is_empty line) && eqb (name_id line) 0

abbrev pub any_no_id : List (List ℕ) → Bool
any_no_id ls = any is_no_id ls

-- the id that a line says, and those of all lines
abbrev pub said : List ℕ → List ℕ
said line = cond (is_empty line) [] (name_id line ∷ [])

abbrev pub ids_of : List (List ℕ) → List ℕ
ids_of ls = lines said ls

-- the answer with the room after the call
pub record Outcome : Type 0 where
  pub number : ℕ
  pub count : ℕ
  pub ids : List ℕ

abbrev pub count_of : Result ℕ Refusal → ℕ
count_of (Ok n) = n
count_of (Err r) = 0

abbrev pub listed : Result ℕ Refusal → List ℕ → Outcome
listed r ids = record { number = number_of r; count = count_of r; ids = ids }

-- 2, then 7, which change nothing; else the ids from the front of the room on
abbrev pub list_outcome : List (List ℕ) → List ℕ → Outcome
list_outcome ls ids =
    cond (any_no_id ls) (record { number = 2; count = 0; ids = ids })
    (cond (ltb (length ids) (length (ids_of ls))) (record { number = 7; count = 0; ids = ids })
    (record { number = 0; count = length (ids_of ls); ids = sets ids 0 (ids_of ls) }))
