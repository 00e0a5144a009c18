-- The nodes of a collapse follow by themselves, and how many there are.
use Prim.Native.Nat.{ℕ, ◌+◌}
use mathlib.Core.Path.{◌≡◌, refl, sym, ap, ap₂, ◌∙◌}
use mathlib.Core.Bool.{Bool, true, false, cond}
use mathlib.Core.List.{List, [], ◌∷◌, ◌++◌, map, Memᴰ}
use native.Mathlib.Omega.{arith}
use borrow.Author.Tests.{ne_eqb, eqb-false}
use lib.Dec.{eqb, ltb}
use lib.ListN.{length, length-append, length-map}
use Rattle.kit.specs.Loops.{all, distinct, count}
use Rattle.kit.proofs.Bools.{or_left}
use Rattle.kit.proofs.Meaning.{all_mem, all_of, any_append, any-map, none_mem, distinct-first, distinct-rest}
use Rattle.kit.proofs.Lists.{any_same}
use Rattle.handle.specs.declared.Handle.{Handle}
use Rattle.handle.specs.Handle.{id_of}
use Rattle.store.specs.Graph.{Graph, node}
use Rattle.store.specs.declared.Node.{Node}
use Rattle.store.specs.Views.{named, node_named, stored, largest}
use Rattle.split.specs.Split.{cut, rest, split, split_nodes}
use Rattle.split.proofs.Nodes.{names, cut-id, named-cut}
use Rattle.merging.specs.Merging.{is_long, cut_at, alone, prefix_of, mark_node, later, later_all, collapsed}
use Rattle.merging.specs.Plan.{long_by, cut_by, prefix_by, alone_nodes, later_nodes, later_nodes_all, merged_nodes}

module _ (p : ℕ) where
  alone_nodes_lem : (g : Graph) (m : Handle) → (alone p g m).nodes ≡ alone_nodes p g.nodes m
  alone_nodes_lem g m =
      elim (is_long p g m) as (λ b. (cond b (split (id_of m) (cut_at p g m) g) g).nodes ≡ cond b (split_nodes (id_of m) (cut_at p g m) g.nodes) g.nodes) [ true ↦ refl | false ↦ refl ]

  later_nodes_lem : (x : Handle) (g : Graph) (m : Handle) → (later p x g m).nodes ≡ later_nodes p g.nodes m
  later_nodes_lem x g m = ap (map (mark_node (id_of (prefix_of p g m)))) (alone_nodes_lem g m)

  all-nodes : (x : Handle) (ms : List Handle) (g : Graph) → (later_all p x g ms).nodes ≡ later_nodes_all p g.nodes ms
  all-nodes x [] g = refl
  all-nodes x (m ∷ ms) g = all-nodes x ms (later p x g m) ∙ ap (λ (rs : List Node). later_nodes_all p rs ms) (later_nodes_lem x g m)

  pub nodes_are : (g : Graph) (ms : List Handle) → (collapsed p g ms).nodes ≡ merged_nodes p g.nodes ms
  nodes_are g [] = refl
  nodes_are g (m ∷ ms) = all-nodes (prefix_of p g m) ms (alone p g m) ∙ ap (λ (rs : List Node). later_nodes_all p rs ms) (alone_nodes_lem g m)

-- a mark changes no id and no length
module _ (i : ℕ) where
  pub mark_id : (r : Node) → (mark_node i r).id ≡ r.id
  mark_id r = elim (named i r) as (λ b. (cond b (node r.id r.start r.len 1) r).id ≡ r.id) [ true ↦ refl | false ↦ refl ]

  pub mark_len : (r : Node) → (mark_node i r).len ≡ r.len
  mark_len r = elim (named i r) as (λ b. (cond b (node r.id r.start r.len 1) r).len ≡ r.len) [ true ↦ refl | false ↦ refl ]

  pub stored-marked : (j : ℕ) (rs : List Node) → stored j (map (mark_node i) rs) ≡ stored j rs
  stored-marked j rs = any-map (named j) (mark_node i) rs ∙ any_same _ _ rs (λ r m. ap (λ (n : ℕ). eqb n j) (mark_id r))

  pub len-marked : (j : ℕ) (rs : List Node) → (node_named j (map (mark_node i) rs)).len ≡ (node_named j rs).len
  len-marked j [] = refl
  len-marked j (r ∷ rs) =
      ap (λ (n : ℕ). (cond (eqb n j) (mark_node i r) (node_named j (map (mark_node i) rs))).len) (mark_id r)
      ∙ by (named j r) (len-marked j rs)
    where
      by : (b : Bool) → (node_named j (map (mark_node i) rs)).len ≡ (node_named j rs).len → (cond b (mark_node i r) (node_named j (map (mark_node i) rs))).len ≡ (cond b r (node_named j rs)).len
      by true e = mark_len r
      by false e = e

-- a test of two lists of nodes counts the same members where it agrees on each
pub count_same : (f h : Handle → Bool) (ms : List Handle) → ((m : Handle) → Memᴰ m ms → f m ≡ h m) → count f ms ≡ count h ms
count_same f h [] e = refl
count_same f h (m ∷ ms) e =
    ap₂ (λ (b : Bool) (n : ℕ). cond b 1 0 + n) (e m (Memᴰ.head refl)) (count_same f h ms (λ u k. e u (Memᴰ.tail k)))

-- two members on one node
abbrev pub same_id : Handle → Handle → Bool
same_id u v = eqb (id_of u) (id_of v)

pub other-id : (m : Handle) (ms : List Handle) → distinct same_id (m ∷ ms) ≡ true → {u : Handle} → Memᴰ u ms → id_of u ≡ id_of m → ⊥
other-id m ms t {u} k e = eqb-false (id_of m) (id_of u) (none_mem (same_id m) (distinct-first same_id m ms t) k) (sym e)

module _ (p : ℕ) (nodes : List Node) (m : Handle) where
  abbrev long : Bool
  long = long_by p nodes m

  abbrev cuts : Node → Node
  cuts = cut (id_of m) (cut_by p nodes m)

  abbrev new : List Node
  new = rest (largest nodes + 1) (cut_by p nodes m) (node_named (id_of m) nodes) ∷ []

  abbrev parted : List Node
  parted = map cuts nodes ++ new

  -- one more where the member is long
  alone-count : length (alone_nodes p nodes m) ≡ length nodes + cond long 1 0
  alone-count =
      elim long as (λ b. length (cond b parted nodes) ≡ length nodes + cond b 1 0) [
        | true ↦ length-append (map cuts nodes) new ∙ ap (λ (n : ℕ). n + 1) (length-map nodes cuts)
        | false ↦ omega arith
      ]

  -- what was stored is, and on other nodes with its length
  alone-stored : (j : ℕ) → stored j nodes ≡ true → stored j (alone_nodes p nodes m) ≡ true
  alone-stored j t =
      elim long as (λ b. stored j (cond b parted nodes) ≡ true) [
        | true ↦ any_append (named j) (map cuts nodes) new
            ∙ or_left _ _ (any-map (named j) cuts nodes ∙ any_same _ _ nodes (λ r k. ap (λ (n : ℕ). eqb n j) (cut-id (id_of m) (cut_by p nodes m) r)) ∙ t)
        | false ↦ t
      ]

  alone-len : (j : ℕ) → stored j nodes ≡ true → (j ≡ id_of m → ⊥) → (node_named j (alone_nodes p nodes m)).len ≡ (node_named j nodes).len
  alone-len j t n =
      let h : (node_named j nodes).id ≡ j = (names j nodes t).has in
      let same : cond (stored j nodes) (cuts (node_named j nodes)) (node_named j new) ≡ node_named j nodes = rw (t, ne_eqb (node_named j nodes).id (id_of m) (λ e. n (sym h ∙ e))) in
      elim long as (λ b. (node_named j (cond b parted nodes)).len ≡ (node_named j nodes).len) [
        | true ↦ ap (λ (r : Node). r.len) (named-cut (id_of m) (cut_by p nodes m) j nodes new ∙ same)
        | false ↦ refl
      ]

  later-count : length (later_nodes p nodes m) ≡ length nodes + cond long 1 0
  later-count = length-map (alone_nodes p nodes m) (mark_node (id_of (prefix_by p nodes (largest nodes + 1) m))) ∙ alone-count

  later-stored : (j : ℕ) → stored j nodes ≡ true → stored j (later_nodes p nodes m) ≡ true
  later-stored j t = stored-marked (id_of (prefix_by p nodes (largest nodes + 1) m)) j (alone_nodes p nodes m) ∙ alone-stored j t

  later-len : (j : ℕ) → stored j nodes ≡ true → (j ≡ id_of m → ⊥) → (node_named j (later_nodes p nodes m)).len ≡ (node_named j nodes).len
  later-len j t n = len-marked (id_of (prefix_by p nodes (largest nodes + 1) m)) j (alone_nodes p nodes m) ∙ alone-len j t n

-- the members that follow are as long as they were
module _ (p : ℕ) (m : Handle) (ms : List Handle) (nodes after : List Node) (is : all (λ u. stored (id_of u) nodes) (m ∷ ms) ≡ true) (apart : distinct same_id (m ∷ ms) ≡ true) where
  there : {u : Handle} → Memᴰ u ms → stored (id_of u) nodes ≡ true
  there k = all_mem (λ u. stored (id_of u) nodes) is (Memᴰ.tail k)

  still_stored : ((j : ℕ) → stored j nodes ≡ true → stored j after ≡ true) → all (λ u. stored (id_of u) after) ms ≡ true
  still_stored keeps = all_of (λ u. stored (id_of u) after) ms (λ u k. keeps (id_of u) (there k))

  as_long : ((j : ℕ) → stored j nodes ≡ true → (j ≡ id_of m → ⊥) → (node_named j after).len ≡ (node_named j nodes).len) → count (long_by p after) ms ≡ count (long_by p nodes) ms
  as_long keeps = count_same (long_by p after) (long_by p nodes) ms (λ u k. ap (ltb p) (keeps (id_of u) (there k) (other-id m ms apart k)))

module _ (p : ℕ) where
  all-count : (ms : List Handle) (nodes : List Node) → all (λ m. stored (id_of m) nodes) ms ≡ true → distinct same_id ms ≡ true → length (later_nodes_all p nodes ms) ≡ length nodes + count (long_by p nodes) ms
  all-count [] nodes is apart = omega arith
  all-count (m ∷ ms) nodes is apart =
      let after = later_nodes p nodes m in
      omega (
        arith,
        all-count ms after (still_stored p m ms nodes after is apart (later-stored p nodes m)) (distinct-rest same_id m ms apart),
        later-count p nodes m,
        as_long p m ms nodes after is apart (later-len p nodes m),
      )

  pub nodes-count : (nodes : List Node) (ms : List Handle) → all (λ m. stored (id_of m) nodes) ms ≡ true → distinct same_id ms ≡ true → length (merged_nodes p nodes ms) ≡ length nodes + count (long_by p nodes) ms
  nodes-count nodes [] is apart = omega arith
  nodes-count nodes (m ∷ ms) is apart =
      let after = alone_nodes p nodes m in
      omega (
        arith,
        all-count ms after (still_stored p m ms nodes after is apart (alone-stored p nodes m)) (distinct-rest same_id m ms apart),
        alone-count p nodes m,
        as_long p m ms nodes after is apart (alone-len p nodes m),
      )
