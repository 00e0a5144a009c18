use Prim.Native.Nat.{ℕ, ◌*◌, ◌≤◌}
use mathlib.Core.Path.{◌≡◌}
use mathlib.Core.List.{List, map}
use lib.ListN.{length, drop}
use Rattle.store.specs.Graph.{handle, nodes_of}
use Rattle.merging.specs.Plan.{later_nodes_all}
use Rattle.merging.proofs.NodeTurns.{Ready}
use Rattle.merging.proofs.nodes.merge_nodes.Given as goal

-- at the head of the loop, which starts with n₁ nodes in l₁: the members from i on make the nodes that are there into all
-- that are to be, and what stands after them is as it was
pub record Inv (l₁ : List ℕ) (n₁ : ℕ) (ns : List ℕ) (p : ℕ) (l : List ℕ) (n i : ℕ) : Type 0 where
  pub bound : i ≤ length ns
  pub size : length l ≡ length l₁
  pub more : n₁ ≤ n
  pub todo : later_nodes_all p (nodes_of n l) (drop i (map handle ns)) ≡ later_nodes_all p (nodes_of n₁ l₁) (drop 1 (map handle ns))
  pub rest : drop (4 * n) l ≡ drop (4 * n) l₁
  pub ready : Ready p (length l₁) (nodes_of n l) (drop i (map handle ns))

abbrev pub invariant-loop-i : goal.invariant-loop-i
invariant-loop-i l = Inv l.initial.nodes l.initial.n l.members l.p l.nodes l.n l.i
