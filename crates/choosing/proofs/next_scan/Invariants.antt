use mathlib.Core.Path.{◌≡◌}
use Rattle.choosing.proofs.Along.{from_slot}
use Rattle.choosing.proofs.next_scan.Given as goal

abbrev pub invariant-loop-i : goal.invariant-loop-i
invariant-loop-i l = l.best ≡ from_slot l.above l.count l.nodes l.i
