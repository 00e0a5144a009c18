use mathlib.Core.List.{[]}
use mathlib.Core.Path.{◌≡◌}
use Rattle.kit.specs.Loops.{lines}
use Rattle.store.specs.Graph.{graph_of}
use Rattle.events.specs.Events.{list_of}
use Rattle.verdict.specs.Conditions.{protected_ids, no_repeat}
use Rattle.verdict.proofs.Protected.{fresh}
use Rattle.verdict.proofs.repeats.repeats.Given as goal

abbrev pub invariant-loop-j : goal.invariant-loop-j
invariant-loop-j l = fresh (lines (protected_ids (graph_of l.oldnodes [] [] l.c) (list_of l.rules l.steps l.u)) l.before) (protected_ids (graph_of l.oldnodes [] [] l.c) (list_of l.rules l.steps l.u) l.id) l.j ≡ no_repeat (lines (protected_ids (graph_of l.oldnodes [] [] l.c) (list_of l.rules l.steps l.u)) l.before) (protected_ids (graph_of l.oldnodes [] [] l.c) (list_of l.rules l.steps l.u) l.id)
