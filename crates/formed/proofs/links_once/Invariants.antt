use mathlib.Core.Path.{◌≡◌}
use lib.ListN.{drop}
use Rattle.formed.specs.WellFormed.{links_once}
use Rattle.store.specs.Graph.{links_of}
use Rattle.formed.proofs.links_once.Given as goal

abbrev pub invariant-loop-i : goal.invariant-loop-i
invariant-loop-i l = links_once (drop l.i (links_of l.count l.links)) ≡ links_once (links_of l.count l.links)
