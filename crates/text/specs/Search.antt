-- What a search for the end of a piece finds.
use Rattle.std.specs.Prelude.{ℕ, ◌+◌, ◌-◌, ◌≤◌, ◌≡◌, cond, List, [], ◌∷◌, eqb, length, take, drop}
use Rattle.text.specs.Pieces.{pieces}

-- the pieces after one that ends at r: none at the end of the bytes, else those that follow the separator there
abbrev pub after : ℕ → List ℕ → ℕ → List (List ℕ)
after sep bs r = cond (eqb r (length bs)) [] (pieces sep (drop (r + 1) bs))

-- the piece that begins at `from` ends at r
pub record Piece (sep : ℕ) (bs : List ℕ) (from r : ℕ) : Type 0 where
  pub low : from ≤ r
  pub high : r ≤ length bs
  pub cut : pieces sep (drop from bs) ≡ take (r - from) (drop from bs) ∷ after sep bs r
