use Prim.Native.Nat.{◌+◌, ◌≤◌}
use mathlib.Core.Path.{◌≡◌}
use lib.ListN.{length}
use Rattle.sides.specs.Sides.{bare}
use Rattle.sides.specs.Search.{side_of}
use Rattle.sides.proofs.Rising.{rest_above}
use Rattle.sides.proofs.count_side.Given as goal

abbrev pub invariant-loop-u : goal.invariant-loop-u
invariant-loop-u l = (l.n ≤ l.above) × (l.n + length (rest_above l.above (side_of l.left (bare l.nodes l.links l.c) l.v)) ≡ length (side_of l.left (bare l.nodes l.links l.c) l.v))

abbrev pub decreases-loop-u : goal.decreases-loop-u
decreases-loop-u l = length (rest_above l.above (side_of l.left (bare l.nodes l.links l.c) l.v))
