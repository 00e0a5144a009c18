-- The store stays well formed: links added between stored nodes, and a node marked.
use Prim.Native.Nat.{ℕ, ◌+◌}
use mathlib.Core.Path.{◌≡◌, refl, sym, ap, ap₂, ◌∙◌}
use mathlib.Core.Bool.{Bool, true, false, cond, ◌&&◌, ◌||◌}
use mathlib.Core.List.{List, [], ◌∷◌, ◌++◌, map, Memᴰ}
use native.Mathlib.Omega.{arith}
use borrow.Author.Tests.{eqb-true}
use lib.Dec.{eqb}
use Rattle.kit.specs.Loops.{all}
use Rattle.kit.proofs.Bools.{never, and_both, and_true_l, and_true_r, not_true_false, or_false_l, or_false_r}
use Rattle.kit.proofs.Meaning.{all_append, all_map, all_mem, all_of, any_mem, distinct-first, distinct-rest}
use Rattle.kit.proofs.Lists.{distinct_snoc, distinct-map}
use Rattle.handle.specs.declared.Handle.{Handle}
use Rattle.handle.specs.declared.Edge.{Edge}
use Rattle.handle.specs.Handle.{id_of}
use Rattle.handle.specs.Edge.{edge, written, same_ends}
use Rattle.handle.proofs.Edges.{same_ends_lem, same-written, written-written}
use Rattle.store.specs.Graph.{Graph, node, link, ends}
use Rattle.store.specs.declared.Node.{Node}
use Rattle.store.specs.declared.Link.{Link}
use Rattle.store.specs.Views.{named, stored, node_named, unmarked_node, live_node, largest, live_len, live_letters, joins, linked}
use Rattle.formed.specs.WellFormed.{good_node, good_link, good_graph, ids_once, links_once}
use Rattle.formed.proofs.Says.{node_says, says_node, says_link, graph_says, says_graph}
use Rattle.split.proofs.Ends.{both-written}
use Rattle.merging.specs.Merging.{add_link, add_links, joined, mark_node, marked}
use Rattle.merged.proofs.NodesAlone.{mark_id, stored-marked}
use Rattle.store.proofs.Lookups.{live-stored}

-- one that is stored already is not made again
add_once : (e : Edge) (links : List Link) → links_once links ≡ true → links_once (add_link e links) ≡ true
add_once e links t = by (linked e links) refl
  where
    other : linked e links ≡ false → (r : Link) → Memᴰ r links → same_ends (ends r) (written e) ≡ false
    other n r m =
        not_true_false _ (λ q.
        let w : written e ≡ written (ends r) = sym (written-written e) ∙ ap written (sym (same_ends_lem (ends r) (written e) q)) in
        never (sym (any_mem (joins e) m (same-written e (ends r) w)) ∙ n))

    by : (b : Bool) → linked e links ≡ b → links_once (cond b links (links ++ (link (written e) 0 ∷ []))) ≡ true
    by true n = t
    by false n = distinct_snoc (λ r s. same_ends (ends r) (ends s)) links (link (written e) 0) t (other n)

adds_once : (x : Handle) (ys : List Handle) (links : List Link) → links_once links ≡ true → links_once (add_links x ys links) ≡ true
adds_once x [] links t = t
adds_once x (y ∷ ys) links t = adds_once x ys (add_link (edge x y) links) (add_once (edge x y) links t)

-- links between stored nodes
module _ (nodes : List Node) (x : Handle) (here : stored (id_of x) nodes ≡ true) where
  module _ (y : Handle) (there : stored (id_of y) nodes ≡ true) where
    abbrev new : Link
    new = link (written (edge x y)) 0

    good_new : good_link nodes new ≡ true
    good_new =
        let both = both-written (λ j. stored j nodes) (edge x y) ∙ and_both _ _ here there in
        let a = stored (id_of new.from) nodes in
        let b = stored (id_of new.to) nodes in
        says_link nodes new (record {
          mark_bit = omega arith;
          as_written = written-written (edge x y);
          from_stored = and_true_l a b both;
          to_stored = and_true_r a b both;
        })

    add_good : (links : List Link) → all (good_link nodes) links ≡ true → all (good_link nodes) (add_link (edge x y) links) ≡ true
    add_good links t =
        elim (linked (edge x y) links) as (λ b. all (good_link nodes) (cond b links (links ++ (new ∷ []))) ≡ true) [
          | true ↦ t
          | false ↦ all_append (good_link nodes) links (new ∷ []) ∙ and_both _ _ t (and_both _ true good_new refl)
        ]

  adds_good : (ys : List Handle) → all (λ y. stored (id_of y) nodes) ys ≡ true → (links : List Link) → all (good_link nodes) links ≡ true → all (good_link nodes) (add_links x ys links) ≡ true
  adds_good [] s links t = t
  adds_good (y ∷ ys) s links t =
      let a = stored (id_of y) nodes in
      let b = all (λ y. stored (id_of y) nodes) ys in
      adds_good ys (and_true_r a b s) (add_link (edge x y) links) (add_good y (and_true_l a b s) links t)

pub joined_good : (g : Graph) (x : Handle) (ys : List Handle) → stored (id_of x) g.nodes ≡ true → all (λ y. stored (id_of y) g.nodes) ys ≡ true → good_graph g ≡ true → good_graph (joined x ys g) ≡ true
joined_good g x ys here there t =
    let s = graph_says g t in
    says_graph (joined x ys g) (record {
      nodes_good = s.nodes_good;
      links_good = adds_good g.nodes x here ys there g.links s.links_good;
      links_once = adds_once x ys g.links s.links_once;
    })

-- a mark
module _ (i : ℕ) where
  still_good : (letters : List ℕ) (r : Node) → good_node letters r ≡ true → good_node letters (mark_node i r) ≡ true
  still_good letters r t =
      let s = node_says letters r t in
      elim (named i r) as (λ b. good_node letters (cond b (node r.id r.start r.len 1) r) ≡ true) [
        | true ↦ says_node letters (node r.id r.start r.len 1) (record {
          id_low = s.id_low;
          id_high = s.id_high;
          mark_bit = omega arith;
          some_letter = s.some_letter;
          inside = s.inside;
          ten_letters = s.ten_letters;
        })
        | false ↦ t
      ]

  good_ends : (nodes : List Node) (r : Link) → good_link (map (mark_node i) nodes) r ≡ good_link nodes r
  good_ends nodes r = rw (stored-marked i (id_of r.from) nodes, stored-marked i (id_of r.to) nodes)

  pub marked_good : (g : Graph) → good_graph g ≡ true → good_graph (marked i g) ≡ true
  marked_good g t =
      let s = graph_says g t in
      says_graph (marked i g) (record {
        nodes_good = all_map (good_node g.letters) (mark_node i) g.nodes
            ∙ all_of _ g.nodes (λ r m. still_good g.letters r (all_mem (good_node g.letters) s.nodes_good m));
        links_good = all_of _ g.links (λ r m. good_ends g.nodes r ∙ all_mem (good_link g.nodes) s.links_good m);
        links_once = s.links_once;
      })

  pub marked-once : (rs : List Node) → ids_once rs ≡ true → ids_once (map (mark_node i) rs) ≡ true
  marked-once rs t =
      distinct-map (λ r s. named r.id s) (λ r s. named r.id s) (mark_node i) rs t
      (λ a b m n e. ap₂ eqb (sym (mark_id i b)) (sym (mark_id i a)) ∙ e)

  pub marked-largest : (rs : List Node) → largest (map (mark_node i) rs) ≡ largest rs
  marked-largest [] = refl
  marked-largest (r ∷ rs) = omega (arith, mark_id i r, marked-largest rs)

  pub marked_beside : (j : ℕ) → (j ≡ i → ⊥) → (rs : List Node) → node_named j (map (mark_node i) rs) ≡ node_named j rs
  marked_beside j n [] = refl
  marked_beside j n (r ∷ rs) =
      ap (λ (k : ℕ). cond (eqb k j) (mark_node i r) (node_named j (map (mark_node i) rs))) (mark_id i r)
      ∙ by (named j r) (named i r) refl refl (marked_beside j n rs)
    where
      by : (b c : Bool) → named j r ≡ b → named i r ≡ c → node_named j (map (mark_node i) rs) ≡ node_named j rs → cond b (cond c (node r.id r.start r.len 1) r) (node_named j (map (mark_node i) rs)) ≡ cond b r (node_named j rs)
      by true true p q e = absurd (n (sym (eqb-true r.id j p) ∙ eqb-true r.id i q))
      by true false p q e = refl
      by false c p q e = e

  -- the letters of a live node are lost
  none_named : (rs : List Node) → stored i rs ≡ false → map (mark_node i) rs ≡ rs
  none_named [] t = refl
  none_named (r ∷ rs) t =
      ap₂ ◌∷◌
      (ap (λ (b : Bool). cond b (node r.id r.start r.len 1) r) (or_false_l (named i r) (stored i rs) t))
      (none_named rs (or_false_r (named i r) (stored i rs) t))

  pub marked-letters : (rs : List Node) → ids_once rs ≡ true → live_node i rs ≡ true → live_letters (map (mark_node i) rs) + (node_named i rs).len ≡ live_letters rs
  marked-letters [] once t = never (sym t)
  marked-letters (r ∷ rs) once t = by (named i r) refl t (marked-letters rs (distinct-rest (λ r s. named r.id s) r rs once))
    where
      alone-named : named i r ≡ true → stored i rs ≡ false
      alone-named e = ap (λ (j : ℕ). stored j rs) (sym (eqb-true r.id i e)) ∙ distinct-first (λ r s. named r.id s) r rs once

      here : (u : Bool) → (u || live_node i rs) ≡ true → stored i rs ≡ false → u ≡ true
      here true q n = refl
      here false q n = never (sym (live-stored i rs q) ∙ n)

      by : (b : Bool) → named i r ≡ b → ((b && unmarked_node r) || live_node i rs) ≡ true → (live_node i rs ≡ true → live_letters (map (mark_node i) rs) + (node_named i rs).len ≡ live_letters rs) → live_len (cond b (node r.id r.start r.len 1) r) + live_letters (map (mark_node i) rs) + (cond b r (node_named i rs)).len ≡ live_len r + live_letters rs
      by true e q go =
          let n = alone-named e in
          let l : live_len r ≡ r.len = ap (λ (b : Bool). cond b r.len 0) (here (unmarked_node r) q n) in
          omega (arith, ap live_letters (none_named rs n))
      by false e q go = omega (arith, go q)
