use mathlib.Core.Path.{◌≡◌}
use Rattle.store.specs.Graph.{nodes_of}
use Rattle.sides.proofs.Search.{from_slot}
use Rattle.sides.proofs.next_side.Given as goal

abbrev pub invariant-loop-i : goal.invariant-loop-i
invariant-loop-i l = l.best ≡ from_slot l.left l.v l.above (nodes_of l.c.nodes l.nodes) l.c.links l.links l.i
