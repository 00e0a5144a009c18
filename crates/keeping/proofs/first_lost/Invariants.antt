use mathlib.Core.List.{[]}
use Rattle.store.specs.Graph.{graph_of}
use Rattle.events.specs.Events.{list_of}
use Rattle.keeping.proofs.LinksKept.{FirstLost}
use Rattle.keeping.proofs.first_lost.Given as goal

abbrev pub invariant-loop-i : goal.invariant-loop-i
invariant-loop-i l = FirstLost (graph_of l.oldnodes [] [] l.c) (graph_of l.nodes [] l.links l.d) (list_of l.rules l.steps l.u) l.c.links l.oldlinks l.i l.best
