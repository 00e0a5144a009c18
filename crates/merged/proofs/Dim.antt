-- The links alone: a link's mark in the plan says that it is not live, and every step of a collapse keeps that true.
use Prim.Native.Nat.{ℕ, ◌+◌}
use mathlib.Core.Path.{◌≡◌, refl, sym, ap, ap₂, ◌∙◌}
use mathlib.Core.Bool.{Bool, true, false, cond, ◌&&◌, ◌||◌, and-false}
use mathlib.Core.List.{List, [], ◌∷◌, ◌++◌, map, map-append, map-map, Memᴰ}
use borrow.Author.Tests.{ne_eqb, eqb-true, eqb-false}
use lib.Dec.{eqb}
use Rattle.kit.specs.Loops.{all, keep, lines}
use Rattle.kit.proofs.Bools.{and_both, and_true_l, and_true_r}
use Rattle.kit.proofs.Meaning.{all_mem, any-map, none_of}
use Rattle.kit.proofs.Lists.{any_same}
use Rattle.handle.specs.declared.Handle.{Handle}
use Rattle.handle.specs.Handle.{id_of, pack}
use Rattle.handle.specs.Edge.{edge, written}
use Rattle.store.specs.Graph.{Graph, node, link, ends}
use Rattle.store.specs.declared.Node.{Node}
use Rattle.store.specs.declared.Link.{Link}
use Rattle.store.specs.Views.{named, stored, unmarked_node, live_here, live_node, largest, joins, linked, live_link}
use Rattle.formed.specs.WellFormed.{good_link, ids_once, unmarked_link}
use Rattle.formed.proofs.Says.{link_says}
use Rattle.sides.specs.Sides.{rising, right_ends, right_of}
use Rattle.split.specs.Split.{move_ends, move_link, split_nodes, split_links}
use Rattle.split.proofs.Ends.{both-written}
use Rattle.split.proofs.Links.{away, live_link_lem, live-ends}
use Rattle.merging.specs.Merging.{add_link, add_links, mark_node}
use Rattle.merging.specs.Plan.{dim, bury, right_in}

-- two functions that agree on every element
pub map_same : {A B : Type 0} (f h : A → B) (rs : List A) → ((a : A) → Memᴰ a rs → f a ≡ h a) → map f rs ≡ map h rs
map_same f h [] e = refl
map_same f h (a ∷ rs) e = ap₂ ◌∷◌ (e a (Memᴰ.head refl)) (map_same f h rs (λ b m. e b (Memᴰ.tail m)))

-- a mark on i: i is live no more, the others are as they were
module _ (i : ℕ) (rs : List Node) where
  hidden : (r : Node) (b : Bool) → named i r ≡ b → live_here i (cond b (node r.id r.start r.len 1) r) ≡ false
  hidden r true e = and-false (named i r)
  hidden r false e = ap (λ (b : Bool). b && unmarked_node r) e

  pub live_buried : live_node i (map (mark_node i) rs) ≡ false
  live_buried = any-map (live_here i) (mark_node i) rs ∙ none_of (λ r. live_here i (mark_node i r)) rs (λ r m. hidden r (named i r) refl)

  beside : (j : ℕ) → (j ≡ i → ⊥) → (r : Node) (b : Bool) → named i r ≡ b → live_here j (cond b (node r.id r.start r.len 1) r) ≡ live_here j r
  beside j n r true e =
      let no : named j r ≡ false = ne_eqb r.id j (λ q. n (sym q ∙ eqb-true r.id i e)) in
      rw no
  beside j n r false e = refl

  pub live_beside : (j : ℕ) → (j ≡ i → ⊥) → live_node j (map (mark_node i) rs) ≡ live_node j rs
  live_beside j n = any-map (live_here j) (mark_node i) rs ∙ any_same _ _ rs (λ r m. beside j n r (named i r) refl)

  -- so its links are not
  abbrev after : List Node
  after = map (mark_node i) rs

  abbrev lit : Link → Bool → Bool → Link
  lit r s t = link (ends r) (cond (eqb r.mark 0 && s && t) 0 1)

  dead : (j : ℕ) → eqb j i ≡ true → live_node j after ≡ false
  dead j e = ap (λ (n : ℕ). live_node n after) (eqb-true j i e) ∙ live_buried

  bury-dim : (r : Link) (a b : Bool) → eqb (id_of r.from) i ≡ a → eqb (id_of r.to) i ≡ b → dim after r ≡ cond (a || b) (link (ends r) 1) (dim rs r)
  bury-dim r true b p q =
      ap (λ (s : Bool). lit r s (live_node (id_of r.to) after)) (dead (id_of r.from) p)
      ∙ ap (λ (s : Bool). link (ends r) (cond (s && live_node (id_of r.to) after) 0 1)) (and-false (eqb r.mark 0))
  bury-dim r false true p q =
      ap (lit r (live_node (id_of r.from) after)) (dead (id_of r.to) q)
      ∙ ap (λ (s : Bool). link (ends r) (cond s 0 1)) (and-false (eqb r.mark 0 && live_node (id_of r.from) after))
  bury-dim r false false p q =
      ap₂ (lit r) (live_beside (id_of r.from) (eqb-false _ _ p)) (live_beside (id_of r.to) (eqb-false _ _ q))

  pub dims_bury : (links : List Link) → map (dim after) links ≡ map (bury i) (map (dim rs) links)
  dims_bury links =
      map_same _ _ links (λ r m. bury-dim r (eqb (id_of r.from) i) (eqb (id_of r.to) i) refl refl) ∙ sym (map-map (bury i) (dim rs) links)

module _ (nodes : List Node) where
  -- a live link that is added has no mark
  module _ (x : Handle) (alive : live_node (id_of x) nodes ≡ true) where
    new-dim : (y : Handle) → live_node (id_of y) nodes ≡ true → dim nodes (link (written (edge x y)) 0) ≡ link (written (edge x y)) 0
    new-dim y t =
        ap (λ (b : Bool). link (written (edge x y)) (cond b 0 1)) (both-written (λ j. live_node j nodes) (edge x y) ∙ and_both _ _ alive t)

    add_dim : (y : Handle) → live_node (id_of y) nodes ≡ true → (links : List Link) → map (dim nodes) (add_link (edge x y) links) ≡ add_link (edge x y) (map (dim nodes) links)
    add_dim y t links =
        by (linked (edge x y) links)
        ∙ ap (λ (b : Bool). cond b (map (dim nodes) links) (map (dim nodes) links ++ (link (written (edge x y)) 0 ∷ []))) (sym (any-map (joins (edge x y)) (dim nodes) links))
      where
        by : (b : Bool) → map (dim nodes) (cond b links (links ++ (link (written (edge x y)) 0 ∷ []))) ≡ cond b (map (dim nodes) links) (map (dim nodes) links ++ (link (written (edge x y)) 0 ∷ []))
        by true = refl
        by false = map-append (dim nodes) links (link (written (edge x y)) 0 ∷ []) ∙ ap (λ (r : Link). map (dim nodes) links ++ (r ∷ [])) (new-dim y t)

    pub adds_dim : (ys : List Handle) → all (λ y. live_node (id_of y) nodes) ys ≡ true → (links : List Link) → map (dim nodes) (add_links x ys links) ≡ add_links x ys (map (dim nodes) links)
    adds_dim [] t links = refl
    adds_dim (y ∷ ys) t links =
        let a = live_node (id_of y) nodes in
        let rest = all (λ y. live_node (id_of y) nodes) ys in
        adds_dim ys (and_true_r a rest t) (add_link (edge x y) links) ∙ ap (add_links x ys) (add_dim y (and_true_l a rest t) links)

  -- the right neighbours are those by unmarked links
  right-lines : (v : Handle) (links : List Link) → lines (right_ends v) (keep (live_link nodes) links) ≡ lines (right_ends v) (keep unmarked_link (map (dim nodes) links))
  right-lines v [] = refl
  right-lines v (r ∷ rs) = by (live_link nodes r) (right-lines v rs)
    where
      rights : List Link → List Handle
      rights = lines (right_ends v)

      by : (b : Bool) → rights (keep (live_link nodes) rs) ≡ rights (keep unmarked_link (map (dim nodes) rs)) → rights (cond b (r ∷ keep (live_link nodes) rs) (keep (live_link nodes) rs)) ≡ rights (keep unmarked_link (link (ends r) (cond b 0 1) ∷ map (dim nodes) rs))
      by true e = ap (λ (l : List Handle). right_ends v r ++ l) e
      by false e = e

  -- a split moves them as they stand
  module _ (id k : ℕ) (once : ids_once nodes ≡ true) (is : stored id nodes ≡ true) (alive : live_node id nodes ≡ true) where
    abbrev v : Handle
    v = pack id 0

    abbrev f : Handle
    f = pack (largest nodes + 1) 0

    dim-moved : (r : Link) → good_link nodes r ≡ true → dim (split_nodes id k nodes) (move_link v f r) ≡ move_link v f (dim nodes r)
    dim-moved r t =
        let s = link_says nodes r t in
        ap (λ (b : Bool). link (written (move_ends v f (ends r))) (cond b 0 1)) (live_link_lem nodes id k once is r (away nodes id k once is (ends r) (and_both _ _ s.from_stored s.to_stored)))

    pub dims_split : (links : List Link) → all (good_link nodes) links ≡ true → map (dim (split_nodes id k nodes)) (split_links id (largest nodes + 1) links) ≡ split_links id (largest nodes + 1) (map (dim nodes) links)
    dims_split links t =
        map-append (dim (split_nodes id k nodes)) (map (move_link v f) links) (link (edge v f) 0 ∷ [])
        ∙ ap₂ ◌++◌
        (map-map (dim (split_nodes id k nodes)) (move_link v f) links
        ∙ map_same _ _ links (λ r m. dim-moved r (all_mem (good_link nodes) t m))
        ∙ sym (map-map (move_link v f) (dim nodes) links))
        (ap (λ (b : Bool). link (edge v f) (cond b 0 1) ∷ []) (live-ends nodes id k once is ∙ alive))

pub rights_are : (g : Graph) (v : Handle) → right_of g v ≡ right_in (map (dim g.nodes) g.links) v
rights_are g v = ap rising (right-lines g.nodes v g.links)
