-- What is read is a well-formed old graph: no operation that is handed it afterwards gives 13 or 5 for it.
use Prim.Native.Nat.{ℕ}
use mathlib.Core.Path.{◌≡◌, refl, sym, ap, ap₂, ◌∙◌, subst}
use mathlib.Core.Bool.{Bool, true, cond, not}
use mathlib.Core.List.{List, [], ◌∷◌, Memᴰ}
use native.Mathlib.Omega.{arith}
use lib.Dec.{eqb}
use lib.ListN.{length}
use lib.Seq.{take-append_seam, length_front, length-take-le}
use Rattle.kit.specs.Loops.{all, distinct}
use Rattle.kit.proofs.Bools.{and_both, and_true_l, and_true_r}
use Rattle.kit.proofs.Laws.{decode-encode, then-length}
use Rattle.kit.proofs.Members.{of_keep}
use Rattle.handle.specs.Handle.{id_of}
use Rattle.store.specs.Graph.{Graph, node_layout, link_layout, graph_of}
use Rattle.store.specs.declared.Node.{Node}
use Rattle.store.specs.Views.{stored, unmarked_node}
use Rattle.formed.specs.WellFormed.{good_node, good_graph, ids_once, unmarked, well_formed}
use Rattle.formed.proofs.Says.{room_says, says_room, says_graph}
use Rattle.spelling.specs.Spelling.{all_stored}
use Rattle.text.specs.Pieces.{lines_of, is_line}
use Rattle.text.specs.Fields.{edge_of}
use Rattle.reading.specs.Reading.{Store, counts_of, fits_in, goes_on, empty, read_text}
use Rattle.reading.specs.Outcome.{holding, ending, read_outcome}
use Rattle.gfa.specs.Accepted.{Accepted, HeldIn}
use Rattle.gfa.specs.Narrowings.{graph_said}
use Rattle.gfa.proofs.ReadGrowth.{segment_lines, link_lines}
use Rattle.gfa.proofs.ReadLines.{link-handles, segment_narrow, segment_some}
use Rattle.gfa.proofs.ReadNodes.{SegmentRead, nodes_good, nodes-unmarked, segment_ids, links_untouched, ids_once_lem}
use Rattle.gfa.proofs.ReadLinks.{Plain, Ended, links-plain}
use Rattle.gfa.proofs.ReadSaid.{segments_only, said-nodes, said-letters, line-zero, line-stored, read_accepted, read-said}

module _ (l : Store) (text : List ℕ) (a : Accepted l text) where
  pub segment_read : (k : List ℕ) → Memᴰ k (segment_lines (lines_of text)) → SegmentRead k
  segment_read k m =
      let f = of_keep (is_line 83) (lines_of text) m in
      let e = line-zero l text a f.0 in
      record { narrow = segment_narrow k e f.1; some = segment_some k e f.1 }

  link-ended : (k : List ℕ) → Memᴰ k (link_lines (lines_of text)) → Ended (segments_only text).nodes (edge_of k)
  link-ended k m =
      let f = of_keep (is_line 76) (lines_of text) m in
      let ns = (segments_only text).nodes in
      let s : all_stored ns ((edge_of k).from ∷ (edge_of k).to ∷ []) ≡ true =
      sym (ap₂ all_stored (said-nodes text) (link-handles k f.1)) ∙ line-stored l text a f.0
      in
      record {
        from_stored = and_true_l (stored (id_of (edge_of k).from) ns) _ s;
        to_stored = and_true_l (stored (id_of (edge_of k).to) ns) true (and_true_r (stored (id_of (edge_of k).from) ns) _ s);
      }

  pub said_plain : Plain (segments_only text).nodes (graph_said text).links
  unfolding graph_said
  said_plain =
      links-plain (segments_only text) (link_lines (lines_of text)) link-ended
      (rw (links_untouched empty (segment_lines (lines_of text))) (record { good = refl; once = refl; marks = refl }))

  segments_good : all (good_node (segments_only text).letters) (segments_only text).nodes ≡ true
  segments_good = nodes_good empty (segment_lines (lines_of text)) segment_read refl

  said_good : good_graph (graph_said text) ≡ true
  said_good =
      says_graph (graph_said text) (record {
        nodes_good = ap₂ (λ (s : List ℕ) (ns : List Node). all (good_node s) ns) (said-letters text) (said-nodes text) ∙ segments_good;
        links_good = rw (said-nodes text) said_plain.good;
        links_once = said_plain.once;
      })

  said-once : ids_once (graph_said text).nodes ≡ true
  said-once =
      ap ids_once (said-nodes text) ∙ ids_once_lem (segments_only text).nodes
      ∙ ap (distinct eqb) (segment_ids empty (segment_lines (lines_of text))) ∙ a.names_once

  pub said-unmarked : unmarked (graph_said text) ≡ true
  said-unmarked =
      and_both _ _
      (ap (all unmarked_node) (said-nodes text) ∙ nodes-unmarked empty (segment_lines (lines_of text)) refl)
      said_plain.marks

pub read_good : (l : Store) (text : List ℕ) → goes_on (read_text l text) ≡ true → (good_graph (read_text l text).graph ≡ true) × (ids_once (read_text l text).graph.nodes ≡ true) × (unmarked (read_text l text).graph ≡ true)
read_good l text t =
    let a = read_accepted l text t in
    let e : (read_text l text).graph ≡ graph_said text = ap (λ r. r.graph) (read-said l text t) in
    (ap good_graph e ∙ said_good l text a, ap (λ g. ids_once g.nodes) e ∙ said-once l text a, ap unmarked e ∙ said-unmarked l text a)

module _ (l : Store) (g : Graph) (room : fits_in l g ≡ true) where
  abbrev arrays : Store
  arrays = holding g l

  held_same : graph_of arrays.nodes arrays.letters arrays.links (counts_of g) ≡ g
  held_same =
      rw (decode-encode node_layout g.nodes, take-append_seam g.letters, decode-encode link_layout g.links)

  held_room : fits_in arrays g ≡ true
  held_room =
      let r = room_says l.nodes l.letters l.links (counts_of g) room in
      let n = then-length node_layout (length g.nodes) g.nodes l.nodes refl r.node_room in
      let m = length g.letters in
      let s = length_front l.letters g.letters m (sym (length-take-le m l.letters r.letter_room)) in
      let k = then-length link_layout (length g.links) g.links l.links refl r.link_room in
      says_room arrays.nodes arrays.letters arrays.links (counts_of g) (record {
        few_nodes = r.few_nodes;
        node_room = omega (arith, n, r.node_room);
        few_letters = r.few_letters;
        letter_room = omega (arith, s, r.letter_room);
        few_links = r.few_links;
        link_room = omega (arith, k, r.link_room);
      })

  held_in : good_graph g ≡ true → ids_once g.nodes ≡ true → unmarked g ≡ true → HeldIn arrays (counts_of g) g
  held_in good once plain =
      let w : well_formed arrays.nodes arrays.letters arrays.links (counts_of g) ≡ true =
      and_both _ _ held_room (ap good_graph held_same ∙ good)
      in
      let i = ap (λ h. ids_once h.nodes) held_same ∙ once in
      record {
        same = held_same;
        formed = and_both _ _ w (ap unmarked held_same ∙ plain);
        number = ap₂ (λ (p q : Bool). cond (not p) 13 (cond (not q) 5 0)) w i;
      }

pub read_held : (l : Store) (text : List ℕ) → goes_on (read_text l text) ≡ true → HeldIn (read_outcome l text).arrays (read_outcome l text).answer.counts (graph_said text)
unfolding read_outcome
read_held l text t =
    let a = read_accepted l text t in
    subst (λ r. HeldIn (ending r l).arrays (ending r l).answer.counts (graph_said text)) (sym (read-said l text t))
    (held_in l (graph_said text) a.room (said_good l text a) (said-once l text a) (said-unmarked l text a))
