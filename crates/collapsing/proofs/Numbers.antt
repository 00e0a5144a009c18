-- What the tests of a group lean on: no stored id is above the range, and no neighbour is told by a letter.
use Prim.Native.Nat.{ℕ, ◌≤◌}
use mathlib.Core.Path.{◌≡◌, refl}
use mathlib.Core.Bool.{true}
use mathlib.Core.List.{List, [], ◌∷◌}
use native.Mathlib.Omega.{arith}
use Rattle.kit.specs.Loops.{all}
use Rattle.kit.proofs.Bools.{and_true_l, and_true_r}
use Rattle.handle.specs.declared.Handle.{Handle}
use Rattle.handle.specs.Handle.{max_id}
use Rattle.store.specs.declared.Counts.{Counts}
use Rattle.store.specs.Graph.{graph_of}
use Rattle.store.specs.declared.Node.{Node}
use Rattle.store.specs.Views.{largest}
use Rattle.formed.specs.WellFormed.{good_node}
use Rattle.formed.proofs.Says.{node_says}
use Rattle.sides.specs.Sides.{bare}
use Rattle.collapsing.specs.Making.{same_lefts}

pub largest_high : (letters : List ℕ) (rs : List Node) → all (good_node letters) rs ≡ true → largest rs ≤ max_id
largest_high letters [] t = omega arith
largest_high letters (r ∷ rs) t =
    let r-high = (node_says letters r (and_true_l (good_node letters r) (all (good_node letters) rs) t)).id_high in
    let rs-high = largest_high letters rs (and_true_r (good_node letters r) (all (good_node letters) rs) t) in
    omega arith

pub bare_lefts : (nodes letters links : List ℕ) (c : Counts) (ms : List Handle) → same_lefts (bare nodes links c) ms ≡ same_lefts (graph_of nodes letters links c) ms
bare_lefts nodes letters links c [] = refl
bare_lefts nodes letters links c (m ∷ ms) = refl
