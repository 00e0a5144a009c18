use mathlib.Core.Path.{◌≡◌}
use lib.ListN.{drop}
use Rattle.store.specs.Views.{joins, find_link}
use Rattle.kit.specs.Loops.{find_from}
use Rattle.store.specs.Graph.{links_of}
use Rattle.store.proofs.find_link.Given as goal

abbrev pub invariant-loop-i : goal.invariant-loop-i
invariant-loop-i l = find_from (joins l.e) l.i (drop l.i (links_of l.count l.links)) ≡ find_link l.e (links_of l.count l.links)
