use mathlib.Core.Path.{◌≡◌}
use Rattle.writing.proofs.Segments.{from_slot}
use Rattle.writing.proofs.along.next_segment.Given as goal

abbrev pub invariant-loop-i : goal.invariant-loop-i
invariant-loop-i l = l.best ≡ from_slot l.above l.count l.nodes l.i
