use Prim.Native.Nat.{◌-◌, ◌≤◌}
use mathlib.Core.Path.{◌≡◌}
use Rattle.sides.specs.Sides.{bare, nth_of}
use Rattle.sides.specs.Search.{side_of}
use Rattle.sides.proofs.Rising.{rest_above}
use Rattle.sides.proofs.nth_side.Given as goal

abbrev pub invariant-loop-u : goal.invariant-loop-u
invariant-loop-u l = (l.n ≤ l.k) × (nth_of (l.k - l.n) (rest_above l.above (side_of l.left (bare l.nodes l.links l.c) l.v)) ≡ nth_of l.k (side_of l.left (bare l.nodes l.links l.c) l.v))

abbrev pub decreases-loop-u : goal.decreases-loop-u
decreases-loop-u l = l.k - l.n
