use mathlib.Core.Path.{◌≡◌}
use lib.ListN.{drop}
use Rattle.events.specs.Events.{rules_of, steps_of}
use Rattle.events.specs.WellFormed.{steps_later}
use Rattle.events.proofs.steps_later.Given as goal

abbrev pub invariant-loop-j : goal.invariant-loop-j
invariant-loop-j l = steps_later (rules_of l.met l.rules) (drop l.j (steps_of l.end l.steps)) ≡ steps_later (rules_of l.met l.rules) (drop l.start (steps_of l.end l.steps))
