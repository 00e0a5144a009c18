use mathlib.Core.List.{[]}
use mathlib.Core.Path.{◌≡◌}
use lib.ListN.{length}
use Rattle.kit.specs.Loops.{first_or, lines}
use Rattle.store.specs.Graph.{nodes_of, graph_of}
use Rattle.sides.proofs.Rising.{rest_above}
use Rattle.groups.specs.Groups.{groups_of}
use Rattle.choosing.specs.Scan.{scan_order, must_collapse, next_group}
use Rattle.choosing.proofs.next_group.Given as goal

abbrev pub invariant-loop-v : goal.invariant-loop-v
invariant-loop-v l = (length l.members ≡ length l.initial.members) × (first_or [] (must_collapse (graph_of l.nodes l.text l.links l.c) l.protected) (lines (groups_of (graph_of l.nodes l.text l.links l.c)) (rest_above l.above (scan_order (nodes_of l.c.nodes l.nodes)))) ≡ next_group (graph_of l.nodes l.text l.links l.c) l.protected)

abbrev pub decreases-loop-v : goal.decreases-loop-v
decreases-loop-v l = length (rest_above l.above (scan_order (nodes_of l.c.nodes l.nodes)))
