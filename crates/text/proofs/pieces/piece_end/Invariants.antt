use Prim.Native.Nat.{ℕ, ◌≤◌}
use lib.ListN.{length}
use Rattle.text.specs.Search.{Piece}
use Rattle.text.proofs.pieces.piece_end.Given as goal

-- the piece that begins at i ends where the one at `from` does
abbrev pub invariant-loop-i : goal.invariant-loop-i
invariant-loop-i l = (l.i ≤ length l.bytes) × ((r : ℕ) → Piece l.sep l.bytes l.i r → Piece l.sep l.bytes l.from r)
