-- What a writer does that counts no further than `stop`, a place past the room: so one function measures, in an empty room, and
-- writes, and however long the text is, no place leaves 64 bits.
use Rattle.std.specs.Prelude.{ℕ, ◌+◌, ◌-◌, ◌^◌, ◌≤◌, ◌<◌, ◌≡◌, List, length}
use Rattle.std.proofs.lemmas.List.Edits.{sets}

-- n, or stop where n is above it
abbrev pub capped : ℕ → ℕ → ℕ
capped stop n = n - (n - stop)

-- a room that ends before stop, and a place that is not past it
pub record Open (stop : ℕ) (l : List ℕ) (at : ℕ) : Type 0 where
  pub before : length l < stop
  pub small : stop ≤ 2 ^ 63
  pub here : at ≤ stop

-- next is the place after bs, written from `at` on into l; where that is inside l, it left m
pub record Capped (stop : ℕ) (l : List ℕ) (at : ℕ) (bs m : List ℕ) (next : ℕ) : Type 0 where
  pub place : next ≡ capped stop (at + length bs)
  pub bytes : next ≤ length l → m ≡ sets l at bs
