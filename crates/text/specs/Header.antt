-- The written header: 01 "Reading and writing", first paragraph.
use Rattle.std.specs.Prelude.{ℕ, Bool, List, eqb, get_or}
use Rattle.kit.specs.Loops.{first_or}
use Rattle.text.specs.Pieces.{lines_of}

-- the first byte alone counts, whatever the first field is; an empty line has none
abbrev pub begins_with_h : List ℕ → Bool
begins_with_h line = eqb (get_or line 0 0) 72

-- the first line whose first byte is H, without its newline, else the fallback
abbrev pub header_of : List ℕ → List ℕ → List ℕ
header_of text fallback = first_or fallback begins_with_h (lines_of text)
