use mathlib.Core.List.{[]}
use mathlib.Core.Path.{◌≡◌}
use Rattle.store.specs.Graph.{graph_of}
use Rattle.events.specs.Events.{list_of}
use Rattle.verdict.specs.Conditions.{protected_fault}
use Rattle.verdict.proofs.Protected.{fault_from}
use Rattle.verdict.proofs.repeats.first_repeat.Given as goal

abbrev pub invariant-loop-i : goal.invariant-loop-i
invariant-loop-i l = fault_from (graph_of l.oldnodes [] [] l.c) (list_of l.rules l.steps l.u) l.protected l.i ≡ protected_fault (graph_of l.oldnodes [] [] l.c) (list_of l.rules l.steps l.u) 0 [] l.protected
