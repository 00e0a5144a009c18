use mathlib.Core.Path.{◌≡◌}
use lib.Dec.{eqb}
use lib.ListN.{drop}
use Rattle.events.specs.Events.{steps_of}
use Rattle.scanning.proofs.RuleTurns.{recorded}
use Rattle.scanning.proofs.lengths_sum.Given as goal

abbrev pub invariant-loop-j : goal.invariant-loop-j
invariant-loop-j l = eqb (recorded (drop l.j (steps_of l.end l.steps))) l.left ≡ eqb (recorded (drop l.first (steps_of l.end l.steps))) l.len
