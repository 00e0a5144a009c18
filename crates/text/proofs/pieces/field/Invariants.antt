use Prim.Native.Nat.{◌-◌, ◌≤◌}
use mathlib.Core.Path.{◌≡◌}
use mathlib.Core.List.{[]}
use lib.ListN.{length, get_or, drop}
use Rattle.text.specs.Pieces.{pieces, field}
use Rattle.text.proofs.pieces.field.Given as goal

abbrev pub invariant-loop : goal.invariant-loop
invariant-loop l = (l.from ≤ length l.line) × (get_or (pieces 9 (drop l.from l.line)) (l.k - l.counter) [] ≡ field l.k l.line)
