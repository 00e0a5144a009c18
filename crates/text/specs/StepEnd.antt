-- What a search for the end of a walk's step finds.
use Rattle.std.specs.Prelude.{ℕ, ◌-◌, ◌≤◌, ◌<◌, ◌≡◌, List, ◌∷◌, length, take, drop}
use Rattle.text.specs.Steps.{walk_steps}

-- the step that begins at `from` ends at r
pub record WalkStep (bs : List ℕ) (from r : ℕ) : Type 0 where
  pub low : from < r
  pub high : r ≤ length bs
  pub cut : walk_steps (drop from bs) ≡ take (r - from) (drop from bs) ∷ walk_steps (drop r bs)
