-- What a split leaves as it was, and what it makes: 01 "Prefix, groups, collapse", third entry.
use Prim.Native.Nat.{ℕ, ◌+◌, ◌≤◌, ◌<◌}
use mathlib.Core.Path.{◌≡◌, refl, sym, ap, ap₂, ◌∙◌}
use mathlib.Core.Bool.{Bool, true, ◌&&◌}
use mathlib.Core.Logic.{◌⊎◌, inl, inr, ⊎_elim}
use mathlib.Core.List.Memᴰ
use mathlib.Core.List.{List, [], ◌∷◌, ◌++◌, map, map-append, map-map, Memᴰ}
use native.Mathlib.Omega.{arith}
use Rattle.kit.specs.Loops.{all}
use Rattle.kit.proofs.Bools.{and_both, and_true_l, and_true_r}
use Rattle.letters.specs.Sequences.{rev_comp, oriented}
use Rattle.letters.proofs.Sequences.{rev_comp-append}
use Rattle.handle.specs.declared.Handle.{Handle}
use Rattle.handle.specs.declared.Edge.{Edge}
use Rattle.handle.specs.Handle.{max_id, pack, id_of}
use Rattle.handle.specs.Edge.{edge}
use Rattle.handle.proofs.Handles.{id-pack, dir_pack}
use Rattle.store.specs.Graph.{Graph, link}
use Rattle.store.specs.declared.Node.{Node}
use Rattle.store.specs.declared.Link.{Link}
use Rattle.store.specs.Views.{node_named, stored, len_of, live_node, live_letters, span, spell, linked, live_linked}
use Rattle.formed.specs.WellFormed.{good_node, good_link, good_graph, ids_once, links_once}
use Rattle.split.specs.Split.{fresh_id, move_ends, move_link, split, rest}
use Rattle.split.proofs.GoodNodes.{nodes_good}
use Rattle.split.proofs.Links.{links_good, links_once_lem, live-new, linked-moved, live_linked-moved}
use Rattle.split.proofs.Nodes.{long-stored, map-cut, largest-split, cut-id, cut_mark, named-v, named-fresh, named_other, once-split, letters-split, span-split}

-- what a split takes for granted: the store is well formed, v has more than k letters, and the fresh id is in range
pub record Splits (g : Graph) (id k : ℕ) : Type 0 where
  pub good : good_graph g ≡ true
  pub once : ids_once g.nodes ≡ true
  pub low : 0 < k
  pub high : k < len_of g id
  pub fits : fresh_id g ≤ max_id

-- what an oriented node reads
reads_forward : (g : Graph) (j : ℕ) → spell g (pack j 0) ≡ span g.letters (node_named j g.nodes)
reads_forward g j =
    ap₂ (λ (d i : ℕ). oriented d (span g.letters (node_named i g.nodes))) (dir_pack j 0 (omega arith)) (id-pack j 0 (omega arith))

reads_reverse : (g : Graph) (j : ℕ) → spell g (pack j 1) ≡ rev_comp (span g.letters (node_named j g.nodes))
reads_reverse g j =
    ap₂ (λ (d i : ℕ). oriented d (span g.letters (node_named i g.nodes))) (dir_pack j 1 (omega arith)) (id-pack j 1 (omega arith))

module _ (g : Graph) (id k : ℕ) (s : Splits g id k) where
  abbrev fresh : ℕ
  fresh = fresh_id g

  abbrev v : Node
  v = node_named id g.nodes

  abbrev v⁺ : Handle
  v⁺ = pack id 0

  abbrev f⁺ : Handle
  f⁺ = pack fresh 0

  pub is_stored : stored id g.nodes ≡ true
  is_stored = long-stored id g.nodes (omega (arith, s.high))

  abbrev nodes_are : Bool
  nodes_are = all (good_node g.letters) g.nodes

  abbrev links_are : Bool
  links_are = all (good_link g.nodes) g.links

  good_links : links_are ≡ true
  good_links = and_true_r nodes_are links_are (and_true_l (nodes_are && links_are) (links_once g.links) s.good)

  -- the store is well formed, and no id is given twice
  pub good_split : good_graph (split id k g) ≡ true
  good_split =
      let a = and_true_l (nodes_are && links_are) (links_once g.links) s.good in
      and_both _ _
      (and_both _ _
      (nodes_good g.letters id k g.nodes s.once is_stored (and_true_l nodes_are links_are a) s.low s.high s.fits)
      (links_good g.nodes id k s.once is_stored g.links good_links))
      (links_once_lem g.nodes id k s.once is_stored g.links good_links (and_true_r (nodes_are && links_are) (links_once g.links) s.good))

  pub once_after : ids_once (split id k g).nodes ≡ true
  once_after = once-split id k g.nodes s.once is_stored

  -- the live letters
  pub letters-kept : live_letters (split id k g).nodes ≡ live_letters g.nodes
  letters-kept = letters-split id k g.nodes s.once is_stored (omega (arith, s.high))

  -- what v read, v and the fresh node read in a row; every other node is as it was
  span-kept : span g.letters v ≡ span g.letters (node_named id (split id k g).nodes) ++ span g.letters (node_named fresh (split id k g).nodes)
  span-kept =
      span-split g.letters fresh k v (omega (arith, s.high))
      ∙ rw (named-v id k g.nodes s.once is_stored, named-fresh id k g.nodes s.once is_stored)

  pub spell-forward : spell g v⁺ ≡ spell (split id k g) v⁺ ++ spell (split id k g) f⁺
  spell-forward =
      reads_forward g id ∙ span-kept ∙ sym (ap₂ ◌++◌ (reads_forward (split id k g) id) (reads_forward (split id k g) fresh))

  pub spell-reverse : spell g (pack id 1) ≡ spell (split id k g) (pack fresh 1) ++ spell (split id k g) (pack id 1)
  spell-reverse =
      reads_reverse g id ∙ ap rev_comp span-kept
      ∙ rev_comp-append (span g.letters (node_named id (split id k g).nodes)) (span g.letters (node_named fresh (split id k g).nodes))
      ∙ sym (ap₂ ◌++◌ (reads_reverse (split id k g) fresh) (reads_reverse (split id k g) id))

  pub others-kept : (j : ℕ) → stored j g.nodes ≡ true → (j ≡ id → ⊥) → node_named j (split id k g).nodes ≡ node_named j g.nodes
  others-kept = named_other id k g.nodes s.once is_stored

  -- ids and marks: one more of each, v's mark and an unmarked link
  pub ids-after : map (λ (r : Node). r.id) (split id k g).nodes ≡ map (λ (r : Node). r.id) g.nodes ++ (fresh ∷ [])
  ids-after = map-cut id k (λ r. r.id) (cut-id id k) g.nodes (rest fresh k v ∷ [])

  pub fresh_after_lem : fresh_id (split id k g) ≡ fresh + 1
  fresh_after_lem = ap (λ (n : ℕ). n + 1) (largest-split id k g.nodes)

  pub node_marks : map (λ (r : Node). r.mark) (split id k g).nodes ≡ map (λ (r : Node). r.mark) g.nodes ++ (v.mark ∷ [])
  node_marks = map-cut id k (λ r. r.mark) (cut_mark id k) g.nodes (rest fresh k v ∷ [])

  pub link_marks : map (λ (r : Link). r.mark) (split id k g).links ≡ map (λ (r : Link). r.mark) g.links ++ (0 ∷ [])
  link_marks =
      map-append (λ r. r.mark) (map (move_link v⁺ f⁺) g.links) (link (edge v⁺ f⁺) 0 ∷ [])
      ∙ ap (λ (l : List ℕ). l ++ (0 ∷ [])) (map-map (λ r. r.mark) (move_link v⁺ f⁺) g.links)

  -- the links: those that were, moved, and v to fresh
  pub links-after : (r : Link) → Memᴰ r (split id k g).links → ((r₀ : Link) × Memᴰ r₀ g.links × (move_link v⁺ f⁺ r₀ ≡ r)) ⊎ (r ≡ link (edge v⁺ f⁺) 0)
  links-after r m =
      ⊎_elim
      (λ a. inl (Memᴰ.of_map (move_link v⁺ f⁺) g.links a))
      (λ b. inr (Memᴰ.eq_of_singleton b))
      (Memᴰ.append_cases (map (move_link v⁺ f⁺) g.links) m)

  pub new-link : Memᴰ (link (edge v⁺ f⁺) 0) (split id k g).links
  new-link = Memᴰ.append_right (map (move_link v⁺ f⁺) g.links) (Memᴰ.head refl)

  -- between nodes that were stored, a link is there, and is live, exactly when it was
  module _ (e : Edge) (from : stored (id_of e.from) g.nodes ≡ true) (to : stored (id_of e.to) g.nodes ≡ true) where
    pub linked-kept : linked (move_ends v⁺ f⁺ e) (split id k g).links ≡ linked e g.links
    linked-kept = linked-moved g.nodes id k s.once is_stored g.links good_links e (and_both _ _ from to)

    pub live_linked-kept : live_linked (split id k g) (move_ends v⁺ f⁺ e) ≡ live_linked g e
    live_linked-kept = live_linked-moved g.nodes id k s.once is_stored g.links good_links e (and_both _ _ from to)

  pub new-live : live_linked (split id k g) (edge v⁺ f⁺) ≡ live_node id g.nodes
  new-live = live-new g.nodes id k s.once is_stored g.links
