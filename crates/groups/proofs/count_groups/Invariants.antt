use Prim.Native.Nat.{◌+◌, ◌≤◌}
use mathlib.Core.Path.{◌≡◌}
use lib.ListN.{length}
use Rattle.store.specs.Graph.{graph_of}
use Rattle.sides.proofs.Rising.{rest_above}
use Rattle.groups.specs.Search.{heads_of}
use Rattle.groups.proofs.count_groups.Given as goal

abbrev pub invariant-loop-u : goal.invariant-loop-u
invariant-loop-u l = (l.n ≤ l.above) × (l.n + length (rest_above l.above (heads_of (graph_of l.nodes l.text l.links l.c) l.v)) ≡ length (heads_of (graph_of l.nodes l.text l.links l.c) l.v))

abbrev pub decreases-loop-u : goal.decreases-loop-u
decreases-loop-u l = length (rest_above l.above (heads_of (graph_of l.nodes l.text l.links l.c) l.v))
