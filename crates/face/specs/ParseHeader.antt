-- parse_header for C: 01 "Reading and writing", first paragraph. The header is a part of the input or of the fallback; C is
-- told which of the two (0 or 1), the place of its first byte there, and how many bytes.
use Rattle.std.specs.Prelude.{ℕ, ◌+◌, ◌≡◌, cond, List, [], ◌∷◌, eqb, length, take, drop}
use Rattle.std.proofs.Common.{sym, ◌∙◌}
use Rattle.text.specs.Header.{begins_with_h}
use Rattle.text.specs.Pieces.{lines_of}
use Rattle.face.specs.declared.parse_header.HeaderPart.{HeaderPart}

abbrev pub part : ℕ → ℕ → ℕ → HeaderPart
part source place n = record { source = source; place = place; length = n }

-- among lines of which the first begins at `at`: the first that begins with H; else the whole fallback. A newline stands
-- after each line
abbrev pub header_from : List ℕ → ℕ → List (List ℕ) → HeaderPart
header_from fallback at [] = part 1 0 (length fallback)
header_from fallback at (line ∷ rs) =
    cond (begins_with_h line) (part 0 at (length line)) (header_from fallback (at + length line + 1) rs)

abbrev pub header_part : List ℕ → List ℕ → HeaderPart
header_part text fallback = header_from fallback 0 (lines_of text)

-- the bytes that a part stands for
abbrev pub bytes_of : HeaderPart → List ℕ → List ℕ → List ℕ
bytes_of p text fallback = take p.length (drop p.place (cond (eqb p.source 0) text fallback))

-- two outcomes that the statement allows are equal
pub one-outcome : (text fallback : List ℕ) (x y : HeaderPart) → x ≡ header_part text fallback → y ≡ header_part text fallback → x ≡ y
one-outcome text fallback x y e f = e ∙ sym f
