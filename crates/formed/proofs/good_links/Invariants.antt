use mathlib.Core.Path.{◌≡◌}
use lib.ListN.{drop}
use Rattle.formed.specs.WellFormed.{good_link}
use Rattle.store.specs.Graph.{nodes_of, links_of}
use Rattle.kit.specs.Loops.{all}
use Rattle.formed.proofs.good_links.Given as goal

abbrev pub invariant-loop-i : goal.invariant-loop-i
invariant-loop-i l = all (good_link (nodes_of l.c.nodes l.nodes)) (drop l.i (links_of l.c.links l.links)) ≡ all (good_link (nodes_of l.c.nodes l.nodes)) (links_of l.c.links l.links)
