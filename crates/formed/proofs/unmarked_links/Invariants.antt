use mathlib.Core.Path.{◌≡◌}
use lib.ListN.{drop}
use Rattle.formed.specs.WellFormed.{unmarked_link}
use Rattle.store.specs.Graph.{links_of}
use Rattle.kit.specs.Loops.{all}
use Rattle.formed.proofs.unmarked_links.Given as goal

abbrev pub invariant-loop-i : goal.invariant-loop-i
invariant-loop-i l = all unmarked_link (drop l.i (links_of l.count l.links)) ≡ all unmarked_link (links_of l.count l.links)
