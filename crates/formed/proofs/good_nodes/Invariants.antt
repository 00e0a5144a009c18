use mathlib.Core.Path.{◌≡◌}
use lib.ListN.{drop}
use Rattle.formed.specs.WellFormed.{good_node}
use Rattle.store.specs.Graph.{nodes_of}
use Rattle.kit.specs.Loops.{all}
use Rattle.formed.proofs.good_nodes.Given as goal

abbrev pub invariant-loop-i : goal.invariant-loop-i
invariant-loop-i l = all (good_node l.text) (drop l.i (nodes_of l.count l.nodes)) ≡ all (good_node l.text) (nodes_of l.count l.nodes)
