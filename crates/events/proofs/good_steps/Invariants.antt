use mathlib.Core.Path.{◌≡◌}
use lib.ListN.{drop}
use Rattle.events.specs.WellFormed.{good_step}
use Rattle.events.specs.Events.{steps_of}
use Rattle.kit.specs.Loops.{all}
use Rattle.events.proofs.good_steps.Given as goal

abbrev pub invariant-loop-i : goal.invariant-loop-i
invariant-loop-i l = all good_step (drop l.i (steps_of l.count l.steps)) ≡ all good_step (steps_of l.count l.steps)
