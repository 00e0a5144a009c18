-- What the limits bound: no text leaves 64 bits, so that it can be measured before it is written.
use Prim.Native.Nat.{ℕ, ◌+◌, ◌^◌, ◌≤◌, ◌<◌}
use mathlib.Core.Path.{◌≡◌, ◌∙◌}
use mathlib.Core.Bool.{true, ◌&&◌}
use mathlib.Core.List.{List, [], map, Memᴰ}
use native.Mathlib.Omega.{arith}
use borrow.Author.Tests.{eqb-true}
use lib.Dec.{eqb}
use lib.ListN.{length, take, drop, length-append, length-take, length-drop, length-map}
use Rattle.kit.specs.Loops.{keep, lines}
use Rattle.kit.proofs.Bools.{and_true_l, and_true_r}
use Rattle.kit.proofs.Decimal.{decimal_short}
use Rattle.kit.proofs.Laws.{length-decode}
use Rattle.kit.proofs.Meaning.{all_mem, any_some}
use Rattle.kit.proofs.Members.{of_keep}
use Rattle.letters.proofs.Sequences.{length-oriented}
use Rattle.handle.specs.declared.Handle.{Handle}
use Rattle.handle.specs.Handle.{max_id, id_of, dir_of, pack}
use Rattle.store.specs.declared.Counts.{Counts}
use Rattle.store.specs.Graph.{Graph, node_layout, link_layout, nodes_of, links_of, graph_of}
use Rattle.store.specs.declared.Link.{Link}
use Rattle.store.specs.Views.{named, node_named, unmarked_node, live_here, live_node, live_link, span, spell}
use Rattle.formed.specs.WellFormed.{good_node, well_formed}
use Rattle.formed.proofs.Says.{node_says, formed_room, formed_good}
use Rattle.sides.specs.Sides.{bare}
use Rattle.affix.proofs.LookedUp.{formed_readable}
use Rattle.writing.specs.Marks.{link_end}
use Rattle.writing.specs.GraphText.{segment_line, link_line, live_segments, live_links, graph_text}
use Rattle.writing.proofs.Lists.{length-keep, lines-bound, length-rising}
use Rattle.store.proofs.Order.{of_order, order_length}
use Rattle.writing.proofs.Segments.{readable_ids, segment_id_lem}
use Rattle.writing.proofs.Texts.{segment_size, segments-bare, end_size, link-size}

pub spell_short : (g : Graph) (h : Handle) → length (spell g h) ≤ length g.letters
spell_short g h =
    let r = node_named (id_of h) g.nodes in
    omega (arith, length-oriented (dir_of h) (span g.letters r), length-take r.len (drop r.start g.letters), length-drop r.start g.letters)

module _ (nodes letters links : List ℕ) (c : Counts) (t : well_formed nodes letters links c ≡ true) where
  segment_short : (h : Handle) → Memᴰ h (live_segments (nodes_of c.nodes nodes)) → length (segment_line (graph_of nodes letters links c) h) ≤ 16777240
  segment_short h m =
      let g = graph_of nodes letters links c in
      let i = segment_id_lem (nodes_of c.nodes nodes) (readable_ids nodes letters c (formed_readable nodes letters links c t)) m in
      omega (arith, segment_size g h, decimal_short (id_of h) (omega (arith, i.1)), spell_short g h, length-take c.letters letters, (formed_room nodes letters links c t).few_letters)

  live-id : (id : ℕ) → live_node id (nodes_of c.nodes nodes) ≡ true → id ≤ max_id
  live-id id e =
      let r = any_some (live_here id) (nodes_of c.nodes nodes) e in
      let q = eqb-true r.0.id id (and_true_l (named id r.0) (unmarked_node r.0) r.2) in
      let used = take c.letters letters in
      omega (arith, (node_says used r.0 (all_mem (good_node used) (formed_good nodes letters links c t).nodes_good r.1)).id_high)

  end_short : (h : Handle) → live_node (id_of h) (nodes_of c.nodes nodes) ≡ true → length (link_end h) ≤ 23
  end_short h e = omega (arith, end_size h, decimal_short (id_of h) (omega (arith, live-id (id_of h) e)))

  link_short : (r : Link) → Memᴰ r (live_links (graph_of nodes letters links c)) → length (link_line r) ≤ 51
  link_short r m =
      let ns = nodes_of c.nodes nodes in
      let rs = links_of c.links links in
      let l : live_link ns r ≡ true = (of_keep (live_link ns) rs (of_order (keep (live_link ns) rs) m)).1 in
      let here = live_node (id_of r.from) ns in
      let there = live_node (id_of r.to) ns in
      omega (arith, link-size r, end_short r.from (and_true_r (eqb r.mark 0) here (and_true_l (eqb r.mark 0 && here) there l)), end_short r.to (and_true_r (eqb r.mark 0 && here) there l))

  few_segments : length (live_segments (nodes_of c.nodes nodes)) ≤ 65536
  few_segments =
      let ns = keep unmarked_node (nodes_of c.nodes nodes) in
      omega (arith, length-rising (map (λ r. pack r.id 0) ns), length-map ns (λ r. pack r.id 0), length-keep unmarked_node (nodes_of c.nodes nodes), length-decode node_layout c.nodes nodes, (formed_room nodes letters links c t).few_nodes)

  few_links : length (live_links (graph_of nodes letters links c)) ≤ 131072
  few_links =
      let live = live_link (nodes_of c.nodes nodes) in
      let rs = links_of c.links links in
      omega (arith, order_length (keep live rs), length-keep live rs, length-decode link_layout c.links links, (formed_room nodes letters links c t).few_links)

  graph_fits : length (graph_text (graph_of nodes letters links c)) < 2 ^ 64
  graph_fits =
      let g = graph_of nodes letters links c in
      let a : List ℕ = lines (segment_line g) (live_segments g.nodes) in
      let b : List ℕ = lines link_line (live_links g) in
      omega (arith, length-append a b, lines-bound (segment_line g) 16777240 (live_segments g.nodes) segment_short, few_segments, lines-bound link_line 51 (live_links g) link_short, few_links)

  pub segments_fit : 0 + length (lines (segment_line (graph_of nodes letters [] c)) (live_segments (nodes_of c.nodes nodes))) < 2 ^ 64
  segments_fit =
      let g = graph_of nodes letters links c in
      rw (segments-bare nodes letters links c (live_segments g.nodes))
      (omega (arith, graph_fits, length-append (lines (segment_line g) (live_segments g.nodes)) (lines link_line (live_links g))))

  pub links_fit_lem : (at : ℕ) → at ≡ 0 + length (lines (segment_line (graph_of nodes letters [] c)) (live_segments (nodes_of c.nodes nodes))) → at + length (lines link_line (live_links (bare nodes links c))) < 2 ^ 64
  links_fit_lem at e =
      let g = graph_of nodes letters links c in
      let q : at ≡ 0 + length (lines (segment_line g) (live_segments g.nodes)) = e ∙ rw (segments-bare nodes letters links c (live_segments g.nodes)) in
      omega (arith, graph_fits, length-append (lines (segment_line g) (live_segments g.nodes)) (lines link_line (live_links g)))
