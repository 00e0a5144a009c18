-- What writers of answers keep: the place to go on at lies inside the buffer, which has room for a number.
use Rattle.std.specs.Prelude.{ℕ, ◌≤◌, List, length}

pub record Room (at : ℕ) (out : List ℕ) : Type 0 where
  pub inside : at ≤ length out
  pub enough : 32 ≤ length out
