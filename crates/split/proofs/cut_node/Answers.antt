use Prim.Native.Nat.{ℕ, ◌+◌, ◌*◌, ◌≤◌, ◌<◌}
use mathlib.Core.Path.{◌≡◌, refl, sym, ap, ◌∙◌}
use mathlib.Core.Bool.{true}
use mathlib.Core.List.{List, map}
use native.Mathlib.Omega.{arith}
use lib.ListN.{length, drop, get_or, set, length-set}
use Rattle.std.specs.Prelude.{Some}
use Rattle.kit.proofs.Laws.{decode-at, decode-store, by_decode, rest-set}
use Rattle.store.specs.Graph.{node, node_layout, nodes_of, unpack_node}
use Rattle.store.specs.declared.Node.{Node}
use Rattle.store.specs.Views.{named, find_node}
use Rattle.formed.specs.WellFormed.{ids_once}
use Rattle.split.specs.Split.{cut}
use Rattle.split.proofs.Slot.{Slot, slot, cut-set}
use Rattle.split.proofs.cut_node.Goals as goal

-- the store to the node's length
module _ (n id at k : ℕ) (l : List ℕ) (f : find_node id (nodes_of n l) ≡ Some at) (once : ids_once (nodes_of n l) ≡ true) (h : at < n) (room : 4 * n ≤ length l) where
  abbrev with_len : Node → Node
  with_len r = node r.id r.start k r.mark

  abbrev r : Node
  r = unpack_node (drop (4 * at) l)

  is : get_or (nodes_of n l) at r ≡ r
  is = decode-at node_layout n at l r h

  cut-stored : nodes_of n (set l (4 * at + 2) k) ≡ map (cut id k) (nodes_of n l)
  cut-stored =
      let s : Slot id (nodes_of n l) at = slot id at (nodes_of n l) f once in
      let t : named id r ≡ true = ap (named id) (sym is) ∙ s.here r in
      decode-store node_layout n at 2 l k with_len (λ r t. refl) h (omega arith) room
      ∙ sym (cut-set s k r ∙ rw (is, t))

pub returns : goal.returns
returns c =
    let a = c.args in
    let l : List ℕ = a.nodes.now in
    by_decode node_layout a.count (set l (4 * a.at + 2) a.k) _ _ (simp length-set (omega arith))
    (cut-stored a.count a.id a.at a.k l c.requires.at_lt_count.1 c.requires.at_lt_count.2 c.requires.at_lt_count.0 c.requires.count_in_bounds)
    (rest-set node_layout a.count a.at 2 l a.k c.requires.at_lt_count.0 (omega arith))
