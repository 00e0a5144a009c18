use mathlib.Core.Path.{◌≡◌}
use lib.ListN.{drop}
use Rattle.events.specs.WellFormed.{has_step}
use Rattle.events.specs.Events.{rules_of}
use Rattle.kit.specs.Loops.{all}
use Rattle.events.proofs.have_steps.Given as goal

abbrev pub invariant-loop-i : goal.invariant-loop-i
invariant-loop-i l = all has_step (drop l.i (rules_of l.count l.rules)) ≡ all has_step (rules_of l.count l.rules)
