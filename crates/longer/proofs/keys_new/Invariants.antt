use mathlib.Core.Path.{◌≡◌}
use lib.ListN.{drop}
use Rattle.kit.specs.Loops.{all}
use Rattle.store.specs.Graph.{nodes_of}
use Rattle.affix.specs.Prefix.{handles_of}
use Rattle.events.specs.Events.{rules_of}
use Rattle.longer.specs.Ahead.{keys_new, events_by}
use Rattle.longer.proofs.Turns.{key_new}
use Rattle.longer.proofs.keys_new.Given as goal

abbrev pub invariant-loop-i : goal.invariant-loop-i
invariant-loop-i l = all (key_new (rules_of l.rule_count l.rules) (nodes_of l.node_count l.nodes)) (drop l.i (handles_of l.members)) ≡ keys_new (rules_of l.rule_count l.rules) (events_by l.p (nodes_of l.node_count l.nodes) (handles_of l.members))
