use mathlib.Core.Path.{◌≡◌}
use lib.ListN.{drop}
use Rattle.store.specs.Views.{unmarked_node}
use Rattle.store.specs.Graph.{nodes_of}
use Rattle.kit.specs.Loops.{all}
use Rattle.formed.proofs.unmarked_nodes.Given as goal

abbrev pub invariant-loop-i : goal.invariant-loop-i
invariant-loop-i l = all unmarked_node (drop l.i (nodes_of l.count l.nodes)) ≡ all unmarked_node (nodes_of l.count l.nodes)
