use mathlib.Core.Path.{◌≡◌}
use lib.ListN.{drop}
use Rattle.store.specs.Views.{named, find_node}
use Rattle.kit.specs.Loops.{find_from}
use Rattle.store.specs.Graph.{nodes_of}
use Rattle.store.proofs.find_node.Given as goal

abbrev pub invariant-loop-i : goal.invariant-loop-i
invariant-loop-i l = find_from (named l.id) l.i (drop l.i (nodes_of l.count l.nodes)) ≡ find_node l.id (nodes_of l.count l.nodes)
