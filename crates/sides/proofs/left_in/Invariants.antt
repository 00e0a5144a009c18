use Prim.Native.Nat.{ℕ}
use mathlib.Core.Path.{◌≡◌}
use mathlib.Core.Bool.{Bool}
use mathlib.Core.List.{List}
use lib.ListN.{drop}
use Rattle.kit.specs.Loops.{all, keep, lines}
use Rattle.handle.specs.declared.Handle.{Handle}
use Rattle.handle.specs.Edge.{edge}
use Rattle.store.specs.Graph.{links_of, nodes_of}
use Rattle.store.specs.declared.Node.{Node}
use Rattle.store.specs.Views.{live_link, live_linked}
use Rattle.sides.specs.Sides.{bare, left_ends, left_in}
use Rattle.sides.proofs.left_in.Given as goal

-- whether each left neighbour passes that the links from slot i on give u
abbrev pub all_from : (Handle → Bool) → Handle → List Node → ℕ → List ℕ → ℕ → Bool
all_from p u nodes n l i = all p (lines (left_ends u) (keep (live_link nodes) (drop i (links_of n l))))

abbrev pub invariant-loop-i : goal.invariant-loop-i
invariant-loop-i l = all_from (λ w. live_linked (bare l.nodes l.links l.c) (edge w l.v)) l.u (nodes_of l.c.nodes l.nodes) l.c.links l.links l.i ≡ left_in (bare l.nodes l.links l.c) l.u l.v
