use mathlib.Core.Path.{◌≡◌}
use lib.ListN.{drop}
use Rattle.store.specs.Views.{stored}
use Rattle.store.specs.Graph.{nodes_of}
use Rattle.store.proofs.stored_from.Given as goal

abbrev pub invariant-loop-i : goal.invariant-loop-i
invariant-loop-i l = stored l.id (drop l.i (nodes_of l.count l.nodes)) ≡ stored l.id (drop l.start (nodes_of l.count l.nodes))
