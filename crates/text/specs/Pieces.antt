-- Bytes cut into pieces: 01 "Reading and writing", lines and fields.
use Rattle.std.specs.Prelude.{ℕ, Bool, cond, ◌&&◌, List, [], ◌∷◌, eqb, length, get_or}

-- a byte before the first piece
abbrev pub put_first : ℕ → List (List ℕ) → List (List ℕ)
put_first b [] = (b ∷ []) ∷ []
put_first b (p ∷ ps) = (b ∷ p) ∷ ps

-- cut at every separator, which is in no piece
abbrev pub pieces : ℕ → List ℕ → List (List ℕ)
pieces sep [] = [] ∷ []
pieces sep (b ∷ bs) = cond (eqb b sep) ([] ∷ pieces sep bs) (put_first b (pieces sep bs))

-- lines end in byte 10. What follows the last of them is a line as well: where it is empty, it is passed over like any
-- empty line, so that the last newline may be missing
abbrev pub lines_of : List ℕ → List (List ℕ)
lines_of text = pieces 10 text

-- fields are parted by byte 9
abbrev pub fields_of : List ℕ → List (List ℕ)
fields_of line = pieces 9 line

-- the field k, counted from 0; an empty one where there are fewer
abbrev pub field : ℕ → List ℕ → List ℕ
field k line = get_or (fields_of line) k []

-- a line is S, L, P or W when that is its whole first field
abbrev pub is_line : ℕ → List ℕ → Bool
is_line letter line = eqb (length (field 0 line)) 1 && eqb (get_or (field 0 line) 0 0) letter
