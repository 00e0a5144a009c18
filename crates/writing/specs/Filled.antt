-- What a writer does that may be short of room.
use Rattle.std.specs.Prelude.{ℕ, ◌+◌, ◌≤◌, ◌≡◌, List, length}
use Rattle.std.proofs.lemmas.List.Edits.{sets}

-- next is the place after bs, written from `at` on into l; where that is inside l, it left m
pub record Filled (l : List ℕ) (at : ℕ) (bs m : List ℕ) (next : ℕ) : Type 0 where
  pub place : next ≡ at + length bs
  pub bytes : next ≤ length l → m ≡ sets l at bs
