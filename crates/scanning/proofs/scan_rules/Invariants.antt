use mathlib.Core.List.{[]}
use Prim.Native.Nat.{◌-◌, ◌≤◌}
use mathlib.Core.Path.{◌≡◌}
use Rattle.store.specs.Graph.{graph_of}
use Rattle.events.specs.Events.{rules_of, steps_of, walk_of}
use Rattle.events.proofs.Fields.{rule_at}
use Rattle.scanning.specs.Rules.{steps_fault, rules_fault}
use Rattle.scanning.proofs.RuleTurns.{steps_left, rules_left}
use Rattle.scanning.proofs.scan_rules.Given as goal

abbrev pub invariant-loop-j : goal.invariant-loop-j
invariant-loop-j l = steps_left (graph_of l.nodes l.text l.links l.d) l.steps l.i l.first l.walk l.j ≡ steps_fault (graph_of l.nodes l.text l.links l.d) l.i 0 [] (walk_of (steps_of l.u.steps l.steps) (rule_at l.rules l.i))

abbrev pub invariant-scan : goal.invariant-scan
invariant-scan l = (l.i ≤ l.count) × (rules_left (graph_of l.old_nodes l.old_text [] l.c) (graph_of l.nodes l.text l.links l.d) (steps_of l.u.steps l.steps) l.rules l.count l.i ≡ rules_fault (graph_of l.old_nodes l.old_text [] l.c) (graph_of l.nodes l.text l.links l.d) (steps_of l.u.steps l.steps) 0 (rules_of l.count l.rules))

abbrev pub decreases-scan : goal.decreases-scan
decreases-scan l = l.count - l.i
