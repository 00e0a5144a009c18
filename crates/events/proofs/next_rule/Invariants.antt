use mathlib.Core.Path.{◌≡◌}
use lib.ListN.{drop}
use Rattle.events.specs.Events.{rules_of, keyed}
use Rattle.kit.specs.Loops.{find_from}
use Rattle.events.proofs.next_rule.Given as goal

abbrev pub invariant-loop-i : goal.invariant-loop-i
invariant-loop-i l = find_from (keyed l.id l.len) l.i (drop l.i (rules_of l.count l.rules)) ≡ find_from (keyed l.id l.len) l.start (drop l.start (rules_of l.count l.rules))
