use Prim.Native.Nat.{◌+◌, ◌≤◌}
use mathlib.Core.Path.{◌≡◌}
use lib.ListN.{length}
use Rattle.store.specs.Graph.{graph_of}
use Rattle.sides.proofs.Rising.{rest_above}
use Rattle.groups.specs.Search.{of_key}
use Rattle.groups.proofs.count_of_key.Given as goal

abbrev pub invariant-loop-w : goal.invariant-loop-w
invariant-loop-w l = (l.n ≤ l.above) × (l.n + length (rest_above l.above (of_key (graph_of l.nodes l.text l.links l.c) l.v l.u)) ≡ length (of_key (graph_of l.nodes l.text l.links l.c) l.v l.u))

abbrev pub decreases-loop-w : goal.decreases-loop-w
decreases-loop-w l = length (rest_above l.above (of_key (graph_of l.nodes l.text l.links l.c) l.v l.u))
