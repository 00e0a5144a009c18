-- What a lookup that found something, or nothing, tells of the arrays.
use Prim.Native.Nat.{ℕ, ◌*◌, ◌<◌}
use mathlib.Core.Path.{◌≡◌, sym, ap, ◌∙◌}
use mathlib.Core.Bool.{true, false}
use mathlib.Core.List.{List}
use native.Mathlib.Nat.{sub-zero}
use native.Mathlib.Omega.{arith}
use borrow.Author.Tests.{eqb-true}
use lib.ListN.{get_or}
use Rattle.std.specs.Prelude.{Some, None}
use Rattle.kit.proofs.Laws.{length-decode}
use Rattle.kit.proofs.Steps.{found_at}
use Rattle.kit.proofs.Meaning.{first_found, first_none, found-any, nothing_any, any_some, any_mem}
use Rattle.handle.specs.declared.Edge.{Edge}
use Rattle.store.specs.Graph.{node, node_layout, link_layout, nodes_of, links_of}
use Rattle.store.specs.declared.Node.{Node}
use Rattle.store.specs.declared.Link.{Link}
use Rattle.store.specs.Views.{named, find_node, stored, node_named, joins, find_link, linked, live_here, live_node, unmarked_node}
use Rattle.store.proofs.Fields.{node_at, link_at, node_is, link_is}
use Rattle.kit.proofs.Bools.{and_true_l}

-- slot i holds the node with this id
pub record NodeFound (n : ℕ) (l : List ℕ) (id i : ℕ) : Type 0 where
  pub within : i < n
  pub here : node_named id (nodes_of n l) ≡ node_at l i
  pub named_so : get_or l (4 * i) 0 ≡ id
  pub is_stored : stored id (nodes_of n l) ≡ true

pub node-found : (n : ℕ) (l : List ℕ) (id i : ℕ) → find_node id (nodes_of n l) ≡ Some i → NodeFound n l id i
node-found n l id i e =
    let f = found_at (named id) 0 i (nodes_of n l) e in
    let h : i < n = omega (arith, f.high, length-decode node_layout n l) in
    record {
      within = h;
      here = first_found (named id) (node 0 0 0 0) 0 i (nodes_of n l) e (node_at l i) ∙ ap (λ (k : ℕ). get_or (nodes_of n l) k (node_at l i)) (sub-zero i) ∙ node_is n i l h (node_at l i);
      named_so = eqb-true (get_or l (4 * i) 0) id (sym (ap (named id) (ap (λ (k : ℕ). get_or (nodes_of n l) k (node_at l i)) (sub-zero i) ∙ node_is n i l h (node_at l i))) ∙ f.passes (node_at l i));
      is_stored = found-any (named id) 0 i (nodes_of n l) e;
    }

pub node_nowhere : (id : ℕ) (rs : List Node) → find_node id rs ≡ None → stored id rs ≡ false
node_nowhere id rs e = nothing_any (named id) 0 rs e

pub no_node : (id : ℕ) (rs : List Node) → find_node id rs ≡ None → node_named id rs ≡ node 0 0 0 0
no_node id rs e = first_none (named id) (node 0 0 0 0) 0 rs e

-- slot i holds a link with these ends
pub record LinkFound (n : ℕ) (l : List ℕ) (e : Edge) (i : ℕ) : Type 0 where
  pub within : i < n
  pub joins_so : joins e (link_at l i) ≡ true
  pub is_linked : linked e (links_of n l) ≡ true

pub link-found : (n : ℕ) (l : List ℕ) (e : Edge) (i : ℕ) → find_link e (links_of n l) ≡ Some i → LinkFound n l e i
link-found n l e i q =
    let f = found_at (joins e) 0 i (links_of n l) q in
    let h : i < n = omega (arith, f.high, length-decode link_layout n l) in
    record {
      within = h;
      joins_so = sym (ap (joins e) (ap (λ (k : ℕ). get_or (links_of n l) k (link_at l i)) (sub-zero i) ∙ link_is n i l h (link_at l i))) ∙ f.passes (link_at l i);
      is_linked = found-any (joins e) 0 i (links_of n l) q;
    }

pub link_nowhere : (e : Edge) (rs : List Link) → find_link e rs ≡ None → linked e rs ≡ false
link_nowhere e rs q = nothing_any (joins e) 0 rs q

-- a live node is stored
pub live-stored : (id : ℕ) (rs : List Node) → live_node id rs ≡ true → stored id rs ≡ true
live-stored id rs t =
    let r = any_some (live_here id) rs t in
    any_mem (named id) r.1 (and_true_l (named id r.0) (unmarked_node r.0) r.2)
