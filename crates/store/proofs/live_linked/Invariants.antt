use mathlib.Core.Path.{◌≡◌}
use lib.ListN.{drop}
use Rattle.store.specs.Views.{joins_live}
use Rattle.store.specs.Graph.{nodes_of, links_of}
use Rattle.kit.specs.Loops.{any}
use Rattle.store.proofs.live_linked.Given as goal

abbrev pub invariant-loop-i : goal.invariant-loop-i
invariant-loop-i l = any (joins_live (nodes_of l.c.nodes l.nodes) l.e) (drop l.i (links_of l.c.links l.links)) ≡ any (joins_live (nodes_of l.c.nodes l.nodes) l.e) (links_of l.c.links l.links)
