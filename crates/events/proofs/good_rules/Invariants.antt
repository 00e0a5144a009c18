use mathlib.Core.Path.{◌≡◌}
use lib.ListN.{drop}
use Rattle.events.specs.WellFormed.{good_rule}
use Rattle.events.specs.Events.{rules_of}
use Rattle.kit.specs.Loops.{all}
use Rattle.events.proofs.good_rules.Given as goal

abbrev pub invariant-loop-i : goal.invariant-loop-i
invariant-loop-i l = all (good_rule l.total) (drop l.i (rules_of l.count l.rules)) ≡ all (good_rule l.total) (rules_of l.count l.rules)
