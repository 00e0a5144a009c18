use Prim.Native.Nat.{ℕ, ◌+◌, ◌≤◌}
use mathlib.Core.Path.{◌≡◌}
use mathlib.Core.List.{List}
use lib.ListN.{length}
use lib.Seq.{sets}
use Rattle.handle.specs.declared.Handle.{Handle}
use Rattle.store.specs.Graph.{graph_of}
use Rattle.sides.proofs.Rising.{rest_above}
use Rattle.groups.specs.Groups.{arranged, numbers}
use Rattle.groups.specs.Search.{of_key}
use Rattle.groups.proofs.Placing.{downs, ups, placed}
use Rattle.groups.proofs.write_group.Given as goal

-- at the head of the loop: what is left of the members goes from base up to low, and from high on
pub record Inv (ms : List Handle) (base : ℕ) (l₀ l : List ℕ) (low high above : ℕ) : Type 0 where
  pub size : length l ≡ length l₀
  pub at_low : low ≡ base + length (downs (rest_above above ms))
  pub at_high : high + length (ups (rest_above above ms)) ≡ base + length ms
  pub order : low ≤ high
  pub todo : placed l base high (rest_above above ms) ≡ sets l₀ base (numbers (arranged ms))

abbrev pub invariant-loop-w : goal.invariant-loop-w
invariant-loop-w l = Inv (of_key (graph_of l.nodes l.text l.links l.c) l.v l.u) l.base l.initial.members l.members l.low l.high l.above

abbrev pub decreases-loop-w : goal.decreases-loop-w
decreases-loop-w l = length (rest_above l.above (of_key (graph_of l.nodes l.text l.links l.c) l.v l.u))
