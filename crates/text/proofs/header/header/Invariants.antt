use Prim.Native.Nat.{◌-◌, ◌≤◌}
use mathlib.Core.Path.{◌≡◌}
use lib.ListN.{length, drop}
use Rattle.kit.specs.Loops.{first_or}
use Rattle.text.specs.Header.{begins_with_h, header_of}
use Rattle.text.specs.Pieces.{lines_of}
use Rattle.text.proofs.header.header.Given as goal

abbrev pub invariant-loop-at : goal.invariant-loop-at
invariant-loop-at l = (l.at ≤ length l.text) × (first_or l.fallback begins_with_h (lines_of (drop l.at l.text)) ≡ header_of l.text l.fallback)

abbrev pub decreases-loop-at : goal.decreases-loop-at
decreases-loop-at l = length l.text - l.at
