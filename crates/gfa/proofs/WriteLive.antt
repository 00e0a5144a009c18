-- What stands in the lists that are written of a good graph: live segments by rising id, live links in written order.
use Prim.Native.Nat.{ℕ, ◌≤◌}
use mathlib.Core.Path.{◌≡◌, sym, ap, ◌∙◌, subst}
use mathlib.Core.Bool.{Bool, true, ◌&&◌}
use mathlib.Core.List.Memᴰ
use mathlib.Core.List.{List, map, Memᴰ}
use native.Mathlib.Omega.{arith}
use borrow.Author.Tests.{eq-eqb, eqb-true}
use lib.Dec.{eqb}
use lib.ListN.{length, drop, length-drop}
use lib.Seq.{length-take-le}
use Rattle.kit.specs.Loops.{keep}
use Rattle.kit.proofs.Bools.{and_true_l, and_true_r}
use Rattle.kit.proofs.Meaning.{all_mem, any_mem, any_some, first_some}
use Rattle.kit.proofs.Members.{in_keep, of_keep}
use Rattle.letters.specs.Sequences.{all_letters}
use Rattle.letters.proofs.Sequences.{length-oriented, oriented-letters}
use Rattle.handle.specs.declared.Handle.{Handle}
use Rattle.handle.specs.Handle.{max_id, id_of, dir_of, pack}
use Rattle.handle.specs.Edge.{written, same_ends}
use Rattle.handle.proofs.Handles.{id-pack, dir_pack}
use Rattle.store.specs.Graph.{Graph, node, ends}
use Rattle.store.specs.declared.Node.{Node}
use Rattle.store.specs.declared.Link.{Link}
use Rattle.store.specs.Views.{named, stored, node_named, unmarked_node, live_here, live_node, span, spell, live_link}
use Rattle.formed.specs.WellFormed.{good_node, good_link, good_graph}
use Rattle.formed.proofs.Says.{GoodNode, node_says, link_says, graph_says}
use Rattle.sides.proofs.Rising.{of_rising, in_rising}
use Rattle.writing.specs.GraphText.{live_segments, live_links}
use Rattle.store.proofs.Order.{Written, of_order, order_written}
use Rattle.gfa.proofs.WriteLists.{distinct-keep}

abbrev forward : Node → Handle
forward r = pack r.id 0

-- a segment that is written: forward, an id in range, at least one letter, letters alone
pub record Segmented (g : Graph) (h : Handle) : Type 0 where
  pub dir : dir_of h ≡ 0
  pub id_low : 1 ≤ id_of h
  pub id_high : id_of h ≤ max_id
  pub some : 1 ≤ length (spell g h)
  pub letters : all_letters (spell g h) ≡ true

-- a node's own letters, of a node that is good
span-length : (letters : List ℕ) (r : Node) → GoodNode letters r → length (span letters r) ≡ r.len
span-length letters r n = length-take-le r.len (drop r.start letters) (omega (arith, n.inside, length-drop r.start letters))

module _ (g : Graph) (good : good_graph g ≡ true) where
  looked_up : (id : ℕ) → stored id g.nodes ≡ true → GoodNode g.letters (node_named id g.nodes)
  looked_up id t =
      node_says g.letters (node_named id g.nodes)
      (all_mem (good_node g.letters) (graph_says g good).nodes_good (first_some (named id) (node 0 0 0 0) g.nodes t).0)

  pub segmented : {h : Handle} → Memᴰ h (live_segments g.nodes) → Segmented g h
  segmented {h} m =
      let f = Memᴰ.of_map forward (keep unmarked_node g.nodes) (of_rising (map forward (keep unmarked_node g.nodes)) m) in
      let r : Node = f.0 in
      let e : forward r ≡ h = f.2 in
      let k = (of_keep unmarked_node g.nodes f.1).0 in
      let n = node_says g.letters r (all_mem (good_node g.letters) (graph_says g good).nodes_good k) in
      let i : id_of h ≡ r.id = ap id_of (sym e) ∙ id-pack r.id 0 (omega arith) in
      let s = looked_up (id_of h) (any_mem (named (id_of h)) k (eq-eqb r.id (id_of h) (sym i))) in
      let own = span g.letters (node_named (id_of h) g.nodes) in
      record {
        dir = ap dir_of (sym e) ∙ dir_pack r.id 0 (omega arith);
        id_low = omega (arith, n.id_low);
        id_high = omega (arith, n.id_high);
        some = omega (arith, length-oriented (dir_of h) own, span-length g.letters (node_named (id_of h) g.nodes) s, s.some_letter);
        letters = oriented-letters (dir_of h) own s.ten_letters;
      }

-- a live node is among them
pub live_segment : (nodes : List Node) (id : ℕ) → live_node id nodes ≡ true → Memᴰ (pack id 0) (live_segments nodes)
live_segment nodes id t =
    let f = any_some (live_here id) nodes t in
    let r : Node = f.0 in
    let e : r.id ≡ id = eqb-true r.id id (and_true_l (named id r) (unmarked_node r) f.2) in
    let m = Memᴰ.map forward (in_keep unmarked_node f.1 (and_true_r (named id r) (unmarked_node r) f.2)) in
    in_rising (subst (λ (i : ℕ). Memᴰ (pack i 0) (map forward (keep unmarked_node nodes))) e m)

-- a link that is written: in its written form, and the nodes of both ends are written
pub record Joined (g : Graph) (r : Link) : Type 0 where
  pub as_written : written (ends r) ≡ ends r
  pub from_live : Memᴰ (pack (id_of r.from) 0) (live_segments g.nodes)
  pub to_live : Memᴰ (pack (id_of r.to) 0) (live_segments g.nodes)

module _ (g : Graph) (good : good_graph g ≡ true) where
  pub joined : {r : Link} → Memᴰ r (live_links g) → Joined g r
  joined {r} m =
      let k = of_keep (live_link g.nodes) g.links (of_order (keep (live_link g.nodes) g.links) m) in
      let first : Bool = eqb r.mark 0 && live_node (id_of r.from) g.nodes in
      let t = and_true_l first (live_node (id_of r.to) g.nodes) k.1 in
      record {
        as_written = (link_says g.nodes r (all_mem (good_link g.nodes) (graph_says g good).links_good k.0)).as_written;
        from_live = live_segment g.nodes (id_of r.from) (and_true_r (eqb r.mark 0) _ t);
        to_live = live_segment g.nodes (id_of r.to) (and_true_r first _ k.1);
      }

  pub links_rise : Written (live_links g)
  links_rise =
      order_written (keep (live_link g.nodes) g.links)
      (distinct-keep (live_link g.nodes) (λ r s. same_ends (ends r) (ends s)) g.links (graph_says g good).links_once)
