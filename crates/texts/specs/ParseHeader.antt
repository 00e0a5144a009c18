-- parse_header: 01 "Reading and writing", first paragraph. What it hands back is `header_of`; it refuses nothing.
use Rattle.std.specs.Prelude.{ℕ, ◌≡◌, List}
use Rattle.std.proofs.Common.{sym, ◌∙◌}
use Rattle.text.specs.Header.{header_of}

-- two outcomes that the statement allows are equal
pub one-outcome : (text fallback x y : List ℕ) → x ≡ header_of text fallback → y ≡ header_of text fallback → x ≡ y
one-outcome text fallback x y e f = e ∙ sym f
