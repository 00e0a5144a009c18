use mathlib.Core.Path.{◌≡◌}
use lib.ListN.{drop}
use Rattle.store.specs.Views.{live_node}
use Rattle.store.specs.Graph.{nodes_of}
use Rattle.store.proofs.live_node.Given as goal

abbrev pub invariant-loop-i : goal.invariant-loop-i
invariant-loop-i l = live_node l.id (drop l.i (nodes_of l.count l.nodes)) ≡ live_node l.id (nodes_of l.count l.nodes)
