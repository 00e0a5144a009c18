-- What the tests of a store say, as propositions, and back.
use Prim.Native.Nat.{ℕ, ◌+◌, ◌*◌, ◌≤◌}
use mathlib.Core.Path.{◌≡◌, refl, ap, ◌∙◌}
use mathlib.Core.Bool.{Bool, true, false, cond, not, ◌&&◌}
use mathlib.Core.List.{List}
use native.Mathlib.Omega.{arith}
use borrow.Author.Tests.{leb-true, le-leb}
use lib.Dec.{leb}
use lib.ListN.{length}
use Rattle.kit.specs.Loops.{all}
use Rattle.kit.proofs.Bools.{and_true_l, and_true_r, and_both}
use Rattle.letters.specs.Sequences.{all_letters}
use Rattle.handle.specs.Handle.{max_id, is_id, id_of}
use Rattle.handle.specs.Edge.{written, same_ends}
use Rattle.handle.proofs.Edges.{same_ends_lem, ends-refl}
use Rattle.store.specs.declared.Counts.{Counts}
use Rattle.store.specs.Graph.{Graph, ends, graph_of, nodes_of}
use Rattle.store.specs.declared.Node.{Node}
use Rattle.store.specs.declared.Link.{Link}
use Rattle.store.specs.Views.{stored, span}
use Rattle.formed.specs.WellFormed.{room_for, is_mark, good_node, good_link, links_once, good_graph, well_formed, ids_once, graph_number}
use Rattle.kit.proofs.Meaning.{all_mem, all_of}

pub record Room (nodes letters links : List ℕ) (c : Counts) : Type 0 where
  pub few_nodes : c.nodes ≤ 65536
  pub node_room : 4 * c.nodes ≤ length nodes
  pub few_letters : c.letters ≤ 16777216
  pub letter_room : c.letters ≤ length letters
  pub few_links : c.links ≤ 131072
  pub link_room : 3 * c.links ≤ length links

module _ (nodes letters links : List ℕ) (c : Counts) where
  on_nodes : Bool
  on_nodes = leb c.nodes 65536 && leb (4 * c.nodes) (length nodes)

  on-letters : Bool
  on-letters = leb c.letters 16777216 && leb c.letters (length letters)

  on_links : Bool
  on_links = leb c.links 131072 && leb (3 * c.links) (length links)

  pub room_says : room_for nodes letters links c ≡ true → Room nodes letters links c
  unfolding on_nodes on-letters on_links
  room_says t =
      let ab = and_true_l (on_nodes && on-letters) on_links t in
      let a = and_true_l on_nodes on-letters ab in
      let b = and_true_r on_nodes on-letters ab in
      let d = and_true_r (on_nodes && on-letters) on_links t in
      record {
        few_nodes = leb-true c.nodes 65536 (and_true_l (leb c.nodes 65536) _ a);
        node_room = leb-true (4 * c.nodes) (length nodes) (and_true_r (leb c.nodes 65536) _ a);
        few_letters = leb-true c.letters 16777216 (and_true_l (leb c.letters 16777216) _ b);
        letter_room = leb-true c.letters (length letters) (and_true_r (leb c.letters 16777216) _ b);
        few_links = leb-true c.links 131072 (and_true_l (leb c.links 131072) _ d);
        link_room = leb-true (3 * c.links) (length links) (and_true_r (leb c.links 131072) _ d);
      }

  pub says_room : Room nodes letters links c → room_for nodes letters links c ≡ true
  says_room r =
      and_both _ _
      (and_both _ _
      (and_both _ _ (le-leb c.nodes 65536 r.few_nodes) (le-leb (4 * c.nodes) (length nodes) r.node_room))
      (and_both _ _ (le-leb c.letters 16777216 r.few_letters) (le-leb c.letters (length letters) r.letter_room)))
      (and_both _ _ (le-leb c.links 131072 r.few_links) (le-leb (3 * c.links) (length links) r.link_room))

pub record GoodNode (letters : List ℕ) (r : Node) : Type 0 where
  pub id_low : 1 ≤ r.id
  pub id_high : r.id ≤ max_id
  pub mark_bit : r.mark ≤ 1
  pub some_letter : 1 ≤ r.len
  pub inside : r.start + r.len ≤ length letters
  pub ten_letters : all_letters (span letters r) ≡ true

module _ (letters : List ℕ) (r : Node) where
  fits : Bool
  fits = leb (r.start + r.len) (length letters)

  pub node_says : good_node letters r ≡ true → GoodNode letters r
  unfolding fits
  node_says t =
      let imlf = and_true_l (is_id r.id && is_mark r.mark && leb 1 r.len && fits) (all_letters (span letters r)) t in
      let iml = and_true_l (is_id r.id && is_mark r.mark && leb 1 r.len) fits imlf in
      let im = and_true_l (is_id r.id && is_mark r.mark) (leb 1 r.len) iml in
      let i = and_true_l (is_id r.id) (is_mark r.mark) im in
      record {
        id_low = leb-true 1 r.id (and_true_l (leb 1 r.id) (leb r.id max_id) i);
        id_high = leb-true r.id max_id (and_true_r (leb 1 r.id) (leb r.id max_id) i);
        mark_bit = leb-true r.mark 1 (and_true_r (is_id r.id) (is_mark r.mark) im);
        some_letter = leb-true 1 r.len (and_true_r (is_id r.id && is_mark r.mark) (leb 1 r.len) iml);
        inside = leb-true (r.start + r.len) (length letters) (and_true_r (is_id r.id && is_mark r.mark && leb 1 r.len) fits imlf);
        ten_letters = and_true_r (is_id r.id && is_mark r.mark && leb 1 r.len && fits) (all_letters (span letters r)) t;
      }

  pub says_node : GoodNode letters r → good_node letters r ≡ true
  says_node g =
      and_both _ _
      (and_both _ _
      (and_both _ _
      (and_both _ _ (and_both _ _ (le-leb 1 r.id g.id_low) (le-leb r.id max_id g.id_high)) (le-leb r.mark 1 g.mark_bit))
      (le-leb 1 r.len g.some_letter))
      (le-leb (r.start + r.len) (length letters) g.inside))
      g.ten_letters

pub record GoodLink (nodes : List Node) (r : Link) : Type 0 where
  pub mark_bit : r.mark ≤ 1
  pub as_written : written (ends r) ≡ ends r
  pub from_stored : stored (id_of r.from) nodes ≡ true
  pub to_stored : stored (id_of r.to) nodes ≡ true

module _ (nodes : List Node) (r : Link) where
  here : Bool
  here = stored (id_of r.from) nodes

  there : Bool
  there = stored (id_of r.to) nodes

  pub link_says : good_link nodes r ≡ true → GoodLink nodes r
  unfolding here there
  link_says t =
      let mwh = and_true_l (is_mark r.mark && same_ends (written (ends r)) (ends r) && here) there t in
      let mw = and_true_l (is_mark r.mark && same_ends (written (ends r)) (ends r)) here mwh in
      record {
        mark_bit = leb-true r.mark 1 (and_true_l (is_mark r.mark) (same_ends (written (ends r)) (ends r)) mw);
        as_written = same_ends_lem (written (ends r)) (ends r) (and_true_r (is_mark r.mark) (same_ends (written (ends r)) (ends r)) mw);
        from_stored = and_true_r (is_mark r.mark && same_ends (written (ends r)) (ends r)) here mwh;
        to_stored = and_true_r (is_mark r.mark && same_ends (written (ends r)) (ends r) && here) there t;
      }

  pub says_link : GoodLink nodes r → good_link nodes r ≡ true
  says_link g =
      and_both _ _
      (and_both _ _
      (and_both _ _ (le-leb r.mark 1 g.mark_bit) (ap (λ e. same_ends e (ends r)) g.as_written ∙ ends-refl (ends r)))
      g.from_stored)
      g.to_stored

-- a good graph, and a well-formed store, part by part
pub record Good (g : Graph) : Type 0 where
  pub nodes_good : all (good_node g.letters) g.nodes ≡ true
  pub links_good : all (good_link g.nodes) g.links ≡ true
  pub links_once : links_once g.links ≡ true

pub graph_says : (g : Graph) → good_graph g ≡ true → Good g
graph_says g t =
    let nl = and_true_l (all (good_node g.letters) g.nodes && all (good_link g.nodes) g.links) (links_once g.links) t in
    record {
      nodes_good = and_true_l (all (good_node g.letters) g.nodes) (all (good_link g.nodes) g.links) nl;
      links_good = and_true_r (all (good_node g.letters) g.nodes) (all (good_link g.nodes) g.links) nl;
      links_once = and_true_r (all (good_node g.letters) g.nodes && all (good_link g.nodes) g.links) (links_once g.links) t;
    }

pub says_graph : (g : Graph) → Good g → good_graph g ≡ true
says_graph g r = and_both _ _ (and_both _ _ r.nodes_good r.links_good) r.links_once

module _ (nodes letters links : List ℕ) (c : Counts) (t : well_formed nodes letters links c ≡ true) where
  pub formed_room : Room nodes letters links c
  formed_room = room_says nodes letters links c (and_true_l (room_for nodes letters links c) (good_graph (graph_of nodes letters links c)) t)

  pub formed_good : Good (graph_of nodes letters links c)
  formed_good = graph_says (graph_of nodes letters links c) (and_true_r (room_for nodes letters links c) (good_graph (graph_of nodes letters links c)) t)

-- a graph that gives no number is well formed, and its ids are unique
both-pass : (a b : Bool) → ◌≡◌ {A = ℕ} (cond (not a) 13 (cond (not b) 5 0)) 0 → (a ≡ true) × (b ≡ true)
both-pass true true e = (refl, refl)
both-pass true false e = absurd (omega arith)
both-pass false b e = absurd (omega arith)

pub number-zero : (nodes letters links : List ℕ) (c : Counts) → graph_number nodes letters links c ≡ 0 → (well_formed nodes letters links c ≡ true) × (ids_once (nodes_of c.nodes nodes) ≡ true)
number-zero nodes letters links c e = both-pass (well_formed nodes letters links c) (ids_once (nodes_of c.nodes nodes)) e

-- good nodes have ids in range
pub good_ids : (letters : List ℕ) (rs : List Node) → all (good_node letters) rs ≡ true → all (λ r. is_id r.id) rs ≡ true
good_ids letters rs t =
    all_of (λ (r : Node). is_id r.id) rs (λ r m.
    let s = node_says letters r (all_mem (good_node letters) t m) in
    and_both _ _ (le-leb 1 r.id s.id_low) (le-leb r.id max_id s.id_high))
