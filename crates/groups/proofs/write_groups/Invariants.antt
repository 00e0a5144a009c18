use Prim.Native.Nat.{ℕ, ◌+◌}
use mathlib.Core.Path.{◌≡◌}
use mathlib.Core.List.{List, map}
use lib.ListN.{length}
use lib.Seq.{sets}
use Rattle.handle.specs.declared.Handle.{Handle}
use Rattle.store.specs.Graph.{Graph, graph_of}
use Rattle.sides.specs.Sides.{right_of}
use Rattle.sides.proofs.Rising.{rest_above}
use Rattle.groups.specs.Groups.{group_of, groups_of, members_of, ends_from, numbers}
use Rattle.groups.specs.Search.{heads_of}
use Rattle.groups.proofs.write_groups.Given as goal

-- the groups of the heads above a number
abbrev pub left : Graph → Handle → ℕ → List (List Handle)
left g v above = map (group_of g (right_of g v)) (rest_above above (heads_of g v))

-- at the head of the loop: what is left of the groups goes from `at` on, and of their ends from n on
pub record Inv (g : Graph) (v : Handle) (m₀ e₀ m e : List ℕ) (n at above : ℕ) : Type 0 where
  pub member_room : length m ≡ length m₀
  pub end_room : length e ≡ length e₀
  pub places : at + length (members_of (left g v above)) ≡ length (right_of g v)
  pub number : n + length (left g v above) ≡ length (groups_of g v)
  pub members_todo : sets m at (numbers (members_of (left g v above))) ≡ sets m₀ 0 (numbers (members_of (groups_of g v)))
  pub ends_todo : sets e n (ends_from at (left g v above)) ≡ sets e₀ 0 (ends_from 0 (groups_of g v))

abbrev pub invariant-loop-u : goal.invariant-loop-u
invariant-loop-u l = Inv (graph_of l.nodes l.text l.links l.c) l.v l.initial.members l.initial.ends l.members l.ends l.n l.at l.above

abbrev pub decreases-loop-u : goal.decreases-loop-u
decreases-loop-u l = length (rest_above l.above (heads_of (graph_of l.nodes l.text l.links l.c) l.v))
