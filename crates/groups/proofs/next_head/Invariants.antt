use mathlib.Core.Path.{◌≡◌}
use lib.ListN.{length}
use Rattle.store.specs.Graph.{graph_of}
use Rattle.sides.specs.Sides.{right_of}
use Rattle.sides.proofs.Rising.{rest_above}
use Rattle.groups.specs.Search.{first_met}
use Rattle.groups.proofs.Along.{first_left}
use Rattle.groups.proofs.next_head.Given as goal

abbrev pub invariant-loop-u : goal.invariant-loop-u
invariant-loop-u l = first_left (first_met (graph_of l.nodes l.text l.links l.c) (right_of (graph_of l.nodes l.text l.links l.c) l.v)) (right_of (graph_of l.nodes l.text l.links l.c) l.v) l.at ≡ first_left (first_met (graph_of l.nodes l.text l.links l.c) (right_of (graph_of l.nodes l.text l.links l.c) l.v)) (right_of (graph_of l.nodes l.text l.links l.c) l.v) l.above

abbrev pub decreases-loop-u : goal.decreases-loop-u
decreases-loop-u l = length (rest_above l.at (right_of (graph_of l.nodes l.text l.links l.c) l.v))
