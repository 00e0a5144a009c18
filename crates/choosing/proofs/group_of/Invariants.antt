use Prim.Native.Nat.{ℕ}
use mathlib.Core.Path.{◌≡◌}
use mathlib.Core.List.{[], List, map}
use lib.ListN.{length}
use Rattle.kit.specs.Loops.{first_or}
use Rattle.handle.specs.declared.Handle.{Handle}
use Rattle.store.specs.Graph.{Graph, graph_of}
use Rattle.sides.specs.Sides.{right_of}
use Rattle.sides.proofs.Rising.{rest_above}
use Rattle.groups.specs.Groups.{group_of}
use Rattle.groups.specs.Search.{heads_of}
use Rattle.choosing.specs.Scan.{must_collapse}
use Rattle.choosing.specs.Search.{first_group}
use Rattle.choosing.proofs.group_of.Given as goal

-- the groups of the heads above a number
abbrev pub left : Graph → Handle → ℕ → List (List Handle)
left g v above = map (group_of g (right_of g v)) (rest_above above (heads_of g v))

abbrev pub invariant-loop-u : goal.invariant-loop-u
invariant-loop-u l = (length l.members ≡ length l.initial.members) × (first_or [] (must_collapse (graph_of l.nodes l.text l.links l.c) l.protected) (left (graph_of l.nodes l.text l.links l.c) l.v l.above) ≡ first_group (graph_of l.nodes l.text l.links l.c) l.protected l.v)

abbrev pub decreases-loop-u : goal.decreases-loop-u
decreases-loop-u l = length (rest_above l.above (heads_of (graph_of l.nodes l.text l.links l.c) l.v))
