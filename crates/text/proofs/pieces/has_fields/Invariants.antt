use Prim.Native.Nat.{◌+◌, ◌≤◌}
use mathlib.Core.Path.{◌≡◌}
use lib.ListN.{length, drop}
use Rattle.text.specs.Pieces.{pieces, fields_of}
use Rattle.text.proofs.pieces.has_fields.Given as goal

abbrev pub invariant-loop : goal.invariant-loop
invariant-loop l = (l.from ≤ length l.line) × (l.counter + length (pieces 9 (drop l.from l.line)) ≡ 1 + length (fields_of l.line))
