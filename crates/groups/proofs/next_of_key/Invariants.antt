use mathlib.Core.Path.{◌≡◌}
use lib.ListN.{length}
use Rattle.store.specs.Graph.{graph_of}
use Rattle.sides.specs.Sides.{right_of}
use Rattle.sides.proofs.Rising.{rest_above}
use Rattle.groups.specs.Groups.{same_key}
use Rattle.groups.proofs.Along.{first_left}
use Rattle.groups.proofs.next_of_key.Given as goal

abbrev pub invariant-loop-w : goal.invariant-loop-w
invariant-loop-w l = first_left (same_key (graph_of l.nodes l.text l.links l.c) l.u) (right_of (graph_of l.nodes l.text l.links l.c) l.v) l.at ≡ first_left (same_key (graph_of l.nodes l.text l.links l.c) l.u) (right_of (graph_of l.nodes l.text l.links l.c) l.v) l.above

abbrev pub decreases-loop-w : goal.decreases-loop-w
decreases-loop-w l = length (rest_above l.at (right_of (graph_of l.nodes l.text l.links l.c) l.v))
