-- The links before and after a split.
use Prim.Native.Nat.{ℕ, ◌+◌}
use mathlib.Core.Path.{◌≡◌, refl, sym, ap, ap₂, ◌∙◌}
use mathlib.Core.Bool.{Bool, true, false, ◌&&◌, ◌||◌, and_assoc, and_self, or-false}
use mathlib.Core.List.Memᴰ
use mathlib.Core.List.{List, [], ◌∷◌, map, Memᴰ}
use native.Mathlib.Omega.{arith}
use borrow.Author.Tests.{eq-eqb}
use lib.Dec.{eqb}
use Rattle.kit.specs.Loops.{all, any}
use Rattle.kit.proofs.Bools.{same_test, and_both, and_true_l, and_true_r}
use Rattle.kit.proofs.Meaning.{all_append, all_map, all_mem, all_of, any_append, any-map, any_mem, any_some}
use Rattle.handle.specs.declared.Handle.{Handle}
use Rattle.handle.specs.declared.Edge.{Edge}
use Rattle.handle.specs.Handle.{pack, id_of, dir_of}
use Rattle.handle.specs.Edge.{edge, written, same_ends, same_link}
use Rattle.handle.proofs.Handles.{id-pack, dir_pack}
use Rattle.handle.proofs.Edges.{same_ends_lem, ends-refl, written-written, same-written, same_link_lem}
use Rattle.store.specs.Graph.{link, ends}
use Rattle.store.specs.declared.Node.{Node}
use Rattle.store.specs.declared.Link.{Link}
use Rattle.store.specs.Views.{stored, live_node, largest, joins, linked, live_link}
use Rattle.formed.specs.WellFormed.{is_mark, good_link, links_once, ids_once}
use Rattle.split.specs.Split.{move_ends, move_link, split_nodes, split_links}
use Rattle.kit.proofs.Lists.{any_same, distinct_snoc, distinct-map}
use Rattle.split.proofs.Ends.{Away, both_ends, both-written, both-same, both-moved, moves_same, moves_new}
use Rattle.split.proofs.Nodes.{stored-largest, stored-old, stored-fresh, live-old, live-fresh}

-- the parts of the test
record Good (nodes : List Node) (r : Link) : Type 0 where
  mark : is_mark r.mark ≡ true
  form : written (ends r) ≡ ends r
  there : both_ends (λ j. stored j nodes) (ends r) ≡ true

module _ (nodes : List Node) (r : Link) where
  abbrev front : Bool
  front = is_mark r.mark && same_ends (written (ends r)) (ends r)

  good : good_link nodes r ≡ true → Good nodes r
  good t =
      let s = stored (id_of r.from) nodes in
      let a = and_true_l (front && s) (stored (id_of r.to) nodes) t in
      let b = and_true_l front s a in
      record {
        mark = and_true_l (is_mark r.mark) (same_ends (written (ends r)) (ends r)) b;
        form = same_ends_lem _ _ (and_true_r (is_mark r.mark) (same_ends (written (ends r)) (ends r)) b);
        there = and_both _ _ (and_true_r front s a) (and_true_r (front && s) (stored (id_of r.to) nodes) t);
      }

  passes : Good nodes r → good_link nodes r ≡ true
  passes g =
      let s = stored (id_of r.from) nodes in
      and_both _ _
      (and_both _ _
      (and_both _ _ g.mark (ap (λ (e : Edge). same_ends e (ends r)) g.form ∙ ends-refl (ends r)))
      (and_true_l s (stored (id_of r.to) nodes) g.there))
      (and_true_r s (stored (id_of r.to) nodes) g.there)

abbrev same : Link → Link → Bool
same r s = same_ends (ends r) (ends s)

-- a link between two forward nodes is in its written form
forward : (i j : ℕ) → written (edge (pack i 0) (pack j 0)) ≡ edge (pack i 0) (pack j 0)
unfolding written
forward i j =
    rw (eq-eqb (dir_of (pack i 0)) 0 (dir_pack i 0 (omega arith)), eq-eqb (dir_of (pack j 0)) 0 (dir_pack j 0 (omega arith)))

module _ (nodes : List Node) (id k : ℕ) (once : ids_once nodes ≡ true) (is : stored id nodes ≡ true) where
  abbrev v : Handle
  v = pack id 0

  abbrev f : Handle
  f = pack (largest nodes + 1) 0

  abbrev after : List Node
  after = split_nodes id k nodes

  abbrev new : Link
  new = link (edge v f) 0

  -- live, among the nodes after the split
  abbrev live : ℕ → Bool
  live j = live_node j after

  id-v : id_of v ≡ id
  id-v = id-pack id 0 (omega arith)

  id-f : id_of f ≡ largest nodes + 1
  id-f = id-pack (largest nodes + 1) 0 (omega arith)

  old_id : (j : ℕ) → stored j nodes ≡ true → j ≡ id_of f → ⊥
  old_id j t e = omega (arith, stored-largest j nodes t, id-f)

  f-not-v : f ≡ v → ⊥
  f-not-v e = old_id id is (sym (ap id_of e ∙ id-v))

  pub away : (e : Edge) → both_ends (λ j. stored j nodes) e ≡ true → Away f e
  away e t =
      let a = stored (id_of e.from) nodes in
      let b = stored (id_of e.to) nodes in
      record { first = old_id (id_of e.from) (and_true_l a b t); second = old_id (id_of e.to) (and_true_r a b t) }

  -- the ends of a link are stored, and live, after the move exactly when they were
  stored_moved : (e : Edge) → Away f e → both_ends (λ j. stored j after) (move_ends v f e) ≡ both_ends (λ j. stored j nodes) e
  stored_moved =
      both-moved (λ j. stored j nodes) (λ j. stored j after) v f
      (rw (id-f, id-v) (stored-fresh id k nodes once is ∙ sym is))
      (λ j n. stored-old id k nodes once is j (λ e. n (e ∙ sym id-f)))

  live_moved : (e : Edge) → Away f e → both_ends live (move_ends v f e) ≡ both_ends (λ j. live_node j nodes) e
  live_moved =
      both-moved (λ j. live_node j nodes) live v f
      (rw (id-f, id-v) (live-fresh id k nodes once is))
      (λ j n. live-old id k nodes once is j (λ e. n (e ∙ sym id-f)))

  -- a link that was well formed is, moved
  good_moved : (r : Link) → good_link nodes r ≡ true → good_link after (move_link v f r) ≡ true
  good_moved r t =
      let g = good nodes r t in
      let e = move_ends v f (ends r) in
      passes after (move_link v f r) (record {
        mark = g.mark;
        form = written-written e;
        there = both-written (λ j. stored j after) e ∙ stored_moved (ends r) (away (ends r) g.there) ∙ g.there;
      })

  good_new : good_link after new ≡ true
  good_new =
      passes after new (record {
        mark = refl;
        form = forward id (largest nodes + 1);
        there = and_both _ _
            (ap (λ (j : ℕ). stored j after) id-v ∙ stored-old id k nodes once is id (λ e. old_id id is (e ∙ sym id-f)) ∙ is)
            (ap (λ (j : ℕ). stored j after) id-f ∙ stored-fresh id k nodes once is);
      })

  pub live_link_lem : (r : Link) → Away f (ends r) → live_link after (move_link v f r) ≡ live_link nodes r
  live_link_lem r a =
      let e = written (move_ends v f (ends r)) in
      and_assoc (eqb r.mark 0) (live (id_of e.from)) (live (id_of e.to))
      ∙ ap (λ (b : Bool). eqb r.mark 0 && b) (both-written live (move_ends v f (ends r)) ∙ live_moved (ends r) a)
      ∙ sym (and_assoc (eqb r.mark 0) (live_node (id_of r.from) nodes) (live_node (id_of r.to) nodes))

  -- the new link is live where v was
  pub live-ends : both_ends live (edge v f) ≡ live_node id nodes
  live-ends =
      ap₂ ◌&&◌
      (ap live id-v ∙ live-old id k nodes once is id (λ e. old_id id is (e ∙ sym id-f)))
      (ap live id-f ∙ live-fresh id k nodes once is)
      ∙ and_self (live_node id nodes)

  abbrev live_at : Edge → Link → Bool
  live_at e r = joins e r && live_link after r

  pub live-new : (links : List Link) → any (live_at (edge v f)) (split_links id (largest nodes + 1) links) ≡ live_node id nodes
  live-new links = same_test _ _ there back
    where
      there : any (live_at (edge v f)) (split_links id (largest nodes + 1) links) ≡ true → live_node id nodes ≡ true
      there t =
          let a = any_some (live_at (edge v f)) (split_links id (largest nodes + 1) links) t in
          let r = a.0 in
          let j = and_true_l (joins (edge v f) r) (live_link after r) a.2 in
          let q = and_true_r (joins (edge v f) r) (live_link after r) a.2 in
          sym live-ends ∙ both-same live (edge v f) (ends r) j
          ∙ and_true_r (eqb r.mark 0) (both_ends live (ends r)) (sym (and_assoc (eqb r.mark 0) (live (id_of r.from)) (live (id_of r.to))) ∙ q)

      back : live_node id nodes ≡ true → any (live_at (edge v f)) (split_links id (largest nodes + 1) links) ≡ true
      back t =
          any_mem (live_at (edge v f)) (Memᴰ.append_right (map (move_link v f) links) (Memᴰ.head refl))
          (and_both _ _ (same-written (edge v f) (edge v f) refl) (live-ends ∙ t))

  -- two links
  same-moved : (e e' : Edge) → Away f e → Away f e' → same_link (move_ends v f e) (written (move_ends v f e')) ≡ same_link e e'
  same-moved e e' a b =
      same_link_lem (move_ends v f e) (written (move_ends v f e'))
      ∙ ap (same_ends (written (move_ends v f e))) (written-written (move_ends v f e'))
      ∙ sym (same_link_lem (move_ends v f e) (move_ends v f e')) ∙ moves_same v f e e' a b

  module _ (links : List Link) (t : all (good_link nodes) links ≡ true) where
    mem_good : {r : Link} → Memᴰ r links → Good nodes r
    mem_good {r} m = good nodes r (all_mem (good_link nodes) t m)

    mem_away : {r : Link} → Memᴰ r links → Away f (ends r)
    mem_away {r} m = away (ends r) (mem_good m).there

    pub links_good : all (good_link after) (split_links id (largest nodes + 1) links) ≡ true
    links_good =
        all_append (good_link after) (map (move_link v f) links) (new ∷ [])
        ∙ and_both _ _
        (all_map (good_link after) (move_link v f) links ∙ all_of _ links (λ r m. good_moved r (all_mem (good_link nodes) t m)))
        (and_both _ true good_new refl)

    pub links_once_lem : links_once links ≡ true → links_once (split_links id (largest nodes + 1) links) ≡ true
    links_once_lem u =
        distinct_snoc same (map (move_link v f) links) new
        (distinct-map same same (move_link v f) links u
        (λ r s m n e.
        ap₂ same_ends (sym (mem_good m).form) (sym (mem_good n).form) ∙ sym (same_link_lem (ends r) (ends s))
        ∙ sym (moves_same v f (ends r) (ends s) (mem_away m) (mem_away n)) ∙ same_link_lem (move_ends v f (ends r)) (move_ends v f (ends s)) ∙ e))
        (λ r m.
        let s = Memᴰ.of_map (move_link v f) links m in
        let e = move_ends v f (ends s.0) in
        ap (λ (x : Link). same_ends (ends x) (edge v f)) (sym s.2) ∙ ap (same_ends (written e)) (sym (forward id (largest nodes + 1)))
        ∙ sym (same_link_lem e (edge v f)) ∙ moves_new v f (ends s.0) f-not-v)

    -- a test q after the move that fails on v to f and else says what p said before
    any-moved : (p q : Link → Bool) → q new ≡ false → ((r : Link) → Memᴰ r links → q (move_link v f r) ≡ p r) → any q (split_links id (largest nodes + 1) links) ≡ any p links
    any-moved p q n h =
        any_append q (map (move_link v f) links) (new ∷ [])
        ∙ ap₂ ◌||◌ (any-map q (move_link v f) links ∙ any_same _ p links h) (ap (λ (b : Bool). b || false) n)
        ∙ or-false (any p links)

    -- the link e, with its ends stored, is there after the move exactly when it was, and live exactly when it was
    module _ (e : Edge) (q : both_ends (λ j. stored j nodes) e ≡ true) where
      pub linked-moved : linked (move_ends v f e) (split_links id (largest nodes + 1) links) ≡ linked e links
      linked-moved =
          any-moved (joins e) (joins (move_ends v f e)) (moves_new v f e f-not-v) (λ r m. same-moved e (ends r) (away e q) (mem_away m))

      pub live_linked-moved : any (live_at (move_ends v f e)) (split_links id (largest nodes + 1) links) ≡ any (λ r. joins e r && live_link nodes r) links
      live_linked-moved =
          any-moved (λ r. joins e r && live_link nodes r) (live_at (move_ends v f e))
          (ap (λ (b : Bool). b && live_link after new) (moves_new v f e f-not-v))
          (λ r m. ap₂ ◌&&◌ (same-moved e (ends r) (away e q) (mem_away m)) (live_link_lem r (mem_away m)))
