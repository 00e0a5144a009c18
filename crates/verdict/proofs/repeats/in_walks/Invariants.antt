use mathlib.Core.List.{[]}
use mathlib.Core.Path.{◌≡◌}
use lib.Dec.{eqb}
use lib.ListN.{drop}
use Rattle.kit.specs.Loops.{any, lines}
use Rattle.store.specs.Graph.{graph_of}
use Rattle.events.specs.Events.{list_of}
use Rattle.verdict.specs.Conditions.{protected_ids}
use Rattle.verdict.proofs.repeats.in_walks.Given as goal

abbrev pub invariant-loop-k : goal.invariant-loop-k
invariant-loop-k l = any (eqb l.id) (lines (protected_ids (graph_of l.oldnodes [] [] l.c) (list_of l.rules l.steps l.u)) (drop l.k l.before)) ≡ any (eqb l.id) (lines (protected_ids (graph_of l.oldnodes [] [] l.c) (list_of l.rules l.steps l.u)) l.before)
