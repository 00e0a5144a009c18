use mathlib.Core.Path.{◌≡◌}
use lib.ListN.{drop}
use Rattle.events.specs.WellFormed.{keys_once}
use Rattle.events.specs.Events.{rules_of}
use Rattle.events.proofs.keys_once.Given as goal

abbrev pub invariant-loop-i : goal.invariant-loop-i
invariant-loop-i l = keys_once (drop l.i (rules_of l.count l.rules)) ≡ keys_once (rules_of l.count l.rules)
