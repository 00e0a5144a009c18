use mathlib.Core.Path.{◌≡◌}
use lib.ListN.{drop}
use Rattle.formed.specs.WellFormed.{ids_once}
use Rattle.store.specs.Graph.{nodes_of}
use Rattle.formed.proofs.ids_once.Given as goal

abbrev pub invariant-loop-i : goal.invariant-loop-i
invariant-loop-i l = ids_once (drop l.i (nodes_of l.count l.nodes)) ≡ ids_once (nodes_of l.count l.nodes)
