use mathlib.Core.Path.{◌≡◌}
use Rattle.linking.proofs.Passing.{from_slot}
use Rattle.linking.proofs.next_unmarked.Given as goal

abbrev pub invariant-loop-i : goal.invariant-loop-i
invariant-loop-i l = l.best ≡ from_slot l.v l.above l.count l.links l.i
