-- Parts of a node that stand alone, and the links that lead from one to the next.
use Prim.Native.Nat.{ℕ}
use mathlib.Core.Path.{◌≡◌, refl, sym, ap, ap₂, ◌∙◌}
use mathlib.Core.Bool.{Bool, true, false, cond, ◌&&◌}
use mathlib.Core.List.{List, [], ◌∷◌, ◌++◌}
use native.Mathlib.Omega.{arith}
use lib.ListN.{length, take, drop, length-take, length-drop}
use lib.Seq.{take_at, drop_at}
use Rattle.kit.specs.Loops.{all}
use Rattle.kit.proofs.Bools.{and_both, or_left, or_right, not_true_false}
use Rattle.kit.proofs.Meaning.{all_mem, any_append, any_mem, any_some}
use Rattle.letters.specs.Sequences.{oriented}
use Rattle.letters.proofs.Sequences.{length-oriented}
use Rattle.handle.specs.declared.Handle.{Handle}
use Rattle.handle.specs.declared.Edge.{Edge}
use Rattle.handle.specs.Handle.{id_of, dir_of, flip}
use Rattle.handle.specs.Edge.{edge, written}
use Rattle.handle.proofs.Handles.{id-flip, same_handle_lem}
use Rattle.handle.proofs.Edges.{same-written, written-written}
use Rattle.store.specs.Graph.{Graph, link, ends}
use Rattle.store.specs.declared.Node.{Node}
use Rattle.store.specs.declared.Link.{Link}
use Rattle.store.specs.Views.{node_named, stored, len_of, live_node, span, spell, joins, joins_live, linked, live_linked}
use Rattle.formed.specs.WellFormed.{good_node, good_link, good_graph, unmarked_link}
use Rattle.formed.proofs.Says.{node_says, link_says, graph_says}
use Rattle.split.specs.Split.{move_ends}
use Rattle.split.proofs.Ends.{both_ends, both-same}
use Rattle.split.proofs.Nodes.{names}
use Rattle.merging.specs.Merging.{add_link, add_links}

-- a live node of n letters that reads s
pub record Holds (g : Graph) (u : Handle) (s : List ℕ) (n : ℕ) : Type 0 where
  pub live : live_node (id_of u) g.nodes ≡ true
  pub len : len_of g (id_of u) ≡ n
  pub reads : spell g u ≡ s

-- it still does where its node and the letters are the same
pub still_holds : (g h : Graph) (u : Handle) {s : List ℕ} {n : ℕ} → h.letters ≡ g.letters → node_named (id_of u) h.nodes ≡ node_named (id_of u) g.nodes → live_node (id_of u) h.nodes ≡ true → Holds g u s n → Holds h u s n
still_holds g h u l r t a =
    record {
      live = t;
      len = ap (λ (x : Node). x.len) r ∙ a.len;
      reads = ap₂ (λ (x : List ℕ) (y : Node). oriented (dir_of u) (span x y)) l r ∙ a.reads;
    }

-- in a well-formed store a node reads as many letters as it has
pub read_length : (g : Graph) → good_graph g ≡ true → (u : Handle) → stored (id_of u) g.nodes ≡ true → length (spell g u) ≡ len_of g (id_of u)
read_length g t u is =
    let r = node_named (id_of u) g.nodes in
    let a = node_says g.letters r (all_mem (good_node g.letters) (graph_says g t).nodes_good (names (id_of u) g.nodes is).mem) in
    length-oriented (dir_of u) (span g.letters r)
    ∙ omega (arith, length-take r.len (drop r.start g.letters), length-drop r.start g.letters, a.inside)

-- a sequence by its two parts
pub front-part : (p : ℕ) (s a b : List ℕ) → s ≡ a ++ b → length a ≡ p → a ≡ take p s
front-part p s a b e n = sym (ap (take p) e ∙ take_at a b p n)

pub back_part : (p : ℕ) (s a b : List ℕ) → s ≡ a ++ b → length a ≡ p → b ≡ drop p s
back_part p s a b e n = sym (ap (drop p) e ∙ drop_at a b p n)

-- the ends of a stored link are stored
pub linked-stored : (g : Graph) → good_graph g ≡ true → (e : Edge) → linked e g.links ≡ true → both_ends (λ j. stored j g.nodes) e ≡ true
linked-stored g t e q =
    let a = any_some (joins e) g.links q in
    let s = link_says g.nodes a.0 (all_mem (good_link g.nodes) (graph_says g t).links_good a.1) in
    both-same (λ j. stored j g.nodes) e (ends a.0) a.2 ∙ and_both _ _ s.from_stored s.to_stored

-- and where no link has a mark a link between live nodes is live
pub unmarked-live : (g : Graph) → all unmarked_link g.links ≡ true → (e : Edge) → linked e g.links ≡ true → both_ends (λ j. live_node j g.nodes) e ≡ true → live_linked g e ≡ true
unmarked-live g u e q t =
    let a = any_some (joins e) g.links q in
    let r = a.0 in
    let b : both_ends (λ j. live_node j g.nodes) (ends r) ≡ true = sym (both-same (λ j. live_node j g.nodes) e (ends r) a.2) ∙ t in
    any_mem (joins_live g.nodes e) a.1
    (and_both _ _ a.2 (ap (λ (m : Bool). m && live_node (id_of r.from) g.nodes && live_node (id_of r.to) g.nodes) (all_mem unmarked_link u a.1) ∙ b))

-- neither end is on the node of v: it does not move
pub unmoved : (v f : Handle) (e : Edge) → (id_of e.from ≡ id_of v → ⊥) → (id_of e.to ≡ id_of v → ⊥) → move_ends v f e ≡ e
unmoved v f e n m =
    ap₂ (λ (a b : Bool). edge (cond a f e.from) (cond b (flip f) e.to))
    (not_true_false _ (λ t. n (ap id_of (same_handle_lem e.from v t))))
    (not_true_false _ (λ t. m (ap id_of (same_handle_lem e.to (flip v) t) ∙ id-flip v)))

-- what is added is stored, and what was still is
module _ (e : Edge) where
  joins-written : joins e (link (written e) 0) ≡ true
  joins-written = same-written e (written e) (sym (written-written e))

  pub add_linked : (links : List Link) → linked e (add_link e links) ≡ true
  add_linked links = by (linked e links) refl
    where
      by : (b : Bool) → linked e links ≡ b → linked e (cond b links (links ++ (link (written e) 0 ∷ []))) ≡ true
      by true t = t
      by false t = any_append (joins e) links (link (written e) 0 ∷ []) ∙ or_right (linked e links) _ (or_left _ false joins-written)

  add_keeps : (d : Edge) (links : List Link) → linked e links ≡ true → linked e (add_link d links) ≡ true
  add_keeps d links t =
      elim (linked d links) as (λ b. linked e (cond b links (links ++ (link (written d) 0 ∷ []))) ≡ true) [
        | true ↦ t
        | false ↦ any_append (joins e) links (link (written d) 0 ∷ []) ∙ or_left (linked e links) _ t
      ]

  pub adds_keep : (x : Handle) (ys : List Handle) (links : List Link) → linked e links ≡ true → linked e (add_links x ys links) ≡ true
  adds_keep x [] links t = t
  adds_keep x (y ∷ ys) links t = adds_keep x ys (add_link (edge x y) links) (add_keeps (edge x y) links t)
