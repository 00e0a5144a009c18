-- read_gfa: 01 "Reading and writing", first paragraph; its numbers are those of 01 "Numbers that say no", last paragraph.
-- What it answers, and what it leaves in the three arrays, is `read_outcome`.
use Rattle.std.specs.Prelude.{ℕ, ◌≡◌, List}
use Rattle.std.proofs.Common.{sym, ◌∙◌}
use Rattle.reading.specs.Reading.{Store}
use Rattle.reading.specs.Outcome.{Outcome, read_outcome}

-- two outcomes that the statement allows are equal
pub one-outcome : (l : Store) (text : List ℕ) (x y : Outcome) → x ≡ read_outcome l text → y ≡ read_outcome l text → x ≡ y
one-outcome l text x y e f = e ∙ sym f
