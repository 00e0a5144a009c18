use mathlib.Core.List.{[]}
use mathlib.Core.Path.{◌≡◌}
use Rattle.store.specs.Graph.{graph_of}
use Rattle.events.specs.Events.{list_of}
use Rattle.keeping.proofs.NodesKept.{from_node}
use Rattle.keeping.proofs.nodes_fault.Given as goal

abbrev pub invariant-loop-i : goal.invariant-loop-i
invariant-loop-i l = l.v ≡ from_node (graph_of l.oldnodes l.oldtext [] l.c) (graph_of l.nodes l.text [] l.d) (list_of l.rules [] l.u) l.c.nodes l.oldnodes l.i
