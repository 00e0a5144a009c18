-- Who is a live neighbour: u stands on v's right exactly when a live link leads from v to u, and on its left when one leads
-- from u to v.
use Prim.Native.Nat.{ℕ, ◌+◌, ◌<◌}
use mathlib.Core.Path.{◌≡◌, refl, sym, ap, ap₂, ◌∙◌, fun_ext}
use mathlib.Core.Bool.{Bool, true, false, cond, ◌&&◌, ◌||◌, and_comm, or_comm}
use mathlib.Core.List.Memᴰ
use mathlib.Core.List.{List, [], ◌∷◌, Memᴰ}
use mathlib.Core.Logic.{⊎_elim, ◌↔◌}
use native.Mathlib.Omega.{arith}
use borrow.Author.Tests.{eq-eqb, ne_eqb, ltb-true}
use lib.Dec.{eqb, ltb, leb}
use lib.ListN.{length}
use Rattle.kit.specs.Loops.{all, any, keep, lines}
use Rattle.kit.proofs.Bools.{tests, never, and_true_l, and_true_r, and_both, or_left, or_right, or_cases, same_test}
use Rattle.kit.proofs.Meaning.{all_mem, all_of, any_mem, any_some, none_of}
use Rattle.letters.specs.Sequences.{all_letters}
use Rattle.handle.specs.declared.Handle.{Handle}
use Rattle.handle.specs.declared.Edge.{Edge}
use Rattle.handle.specs.Handle.{max_id, is_id, id_of, flip, same_handle}
use Rattle.handle.specs.Edge.{edge, turned, same_ends}
use Rattle.handle.proofs.Handles.{flip-flip, id-flip, same_handle_lem}
use Rattle.handle.proofs.Edges.{turned-turned, same_ends_lem}
use Rattle.store.specs.declared.Counts.{Counts}
use Rattle.store.specs.Graph.{Graph, link, ends, graph_of}
use Rattle.store.specs.declared.Node.{Node}
use Rattle.store.specs.declared.Link.{Link}
use Rattle.store.specs.Views.{joins, joins_live, live_link, live_linked, live_node, live_here, span}
use Rattle.formed.specs.WellFormed.{is_mark, good_node, good_link, links_once, good_graph}
use Rattle.sides.specs.Sides.{right_ends, right_of, left_of, left_in, same_left, bare}
use Rattle.sides.specs.Search.{side_ends, side_of}
use Rattle.kit.proofs.Members.{in_keep, of_keep, in_lines, of_lines, in_one, of_one}
use Rattle.sides.proofs.Rising.{of_rising, in_rising, sorted_same}
use Rattle.sides.proofs.Search.{side_of_lem, side_sorted}

same : {u v : Handle} → u ≡ v → same_handle u v ≡ true
same e = eq-eqb _ _ (ap (λ (h : Handle). h.packed) e)

-- a link leads from v to u exactly when it joins them
right-joins : (v u : Handle) (r : Link) → Memᴰ u (right_ends v r) → joins (edge v u) r ≡ true
right-joins v u r m =
    ⊎_elim
    (λ k.
    let p = of_one (same_handle r.from v) k in
    or_left _ _ (and_both _ _ (same (sym (same_handle_lem r.from v p.0))) (same p.1)))
    (λ k.
    let p = of_one (same_handle (flip r.to) v) k in
    or_right (same_ends (edge v u) (ends r)) _ (and_both _ _ (same (ap flip p.1 ∙ flip-flip r.from)) (same (ap flip (sym (same_handle_lem (flip r.to) v p.0)) ∙ flip-flip r.to))))
    (Memᴰ.append_cases (cond (same_handle r.from v) (r.to ∷ []) []) m)

joins-right : (v u : Handle) (r : Link) → joins (edge v u) r ≡ true → Memᴰ u (right_ends v r)
joins-right v u r t =
    ⊎_elim
    (λ p.
    let e = same_ends_lem (edge v u) (ends r) p in
    Memᴰ.append_left _ (in_one (same_handle r.from v) (same (sym (ap (λ (x : Edge). x.from) e))) (ap (λ (x : Edge). x.to) e)))
    (λ p.
    let e = same_ends_lem (turned (edge v u)) (ends r) p in
    Memᴰ.append_right (cond (same_handle r.from v) (r.to ∷ []) []) (in_one (same_handle (flip r.to) v) (same (sym (ap (λ (x : Edge). flip x.to) e) ∙ flip-flip v)) (sym (flip-flip u) ∙ ap (λ (x : Edge). flip x.from) e)))
    (or_cases (same_ends (edge v u) (ends r)) (same_ends (turned (edge v u)) (ends r)) t)

-- with its two ends exchanged it is read from the left
abbrev crossed : Link → Link
crossed r = link (edge r.to r.from) r.mark

joins-crossed : (v u : Handle) (r : Link) → joins (edge v u) (crossed r) ≡ joins (edge u v) r
joins-crossed v u r =
    ap₂ ◌||◌
    (and_comm (same_handle v r.to) (same_handle u r.from))
    (and_comm (same_handle (flip u) r.to) (same_handle (flip v) r.from))

-- the link that makes u a neighbour of v
abbrev pub side_edge : Bool → Handle → Handle → Edge
side_edge left v u = cond left (edge u v) (edge v u)

side_joins : (left : Bool) (v u : Handle) (r : Link) → Memᴰ u (side_ends left v r) → joins (side_edge left v u) r ≡ true
side_joins true v u r m = sym (joins-crossed v u r) ∙ right-joins v u (crossed r) m
side_joins false v u r m = right-joins v u r m

joins_side : (left : Bool) (v u : Handle) (r : Link) → joins (side_edge left v u) r ≡ true → Memᴰ u (side_ends left v r)
joins_side true v u r t = joins-right v u (crossed r) (joins-crossed v u r ∙ t)
joins_side false v u r t = joins-right v u r t

-- membership: u is a live neighbour of v exactly when they are linked by a live link
pub of_side : (left : Bool) (g : Graph) (v : Handle) {u : Handle} → Memᴰ u (side_of left g v) → live_linked g (side_edge left v u) ≡ true
of_side left g v {u} m =
    let live = keep (live_link g.nodes) g.links in
    let r = of_lines (side_ends left v) live (of_rising (lines (side_ends left v) live) (rw (side_of_lem left g v) at m)) in
    let k = of_keep (live_link g.nodes) g.links r.1 in
    any_mem (joins_live g.nodes (side_edge left v u)) k.0 (and_both _ _ (side_joins left v u r.0 r.2) k.1)

pub in_side : (left : Bool) (g : Graph) (v u : Handle) → live_linked g (side_edge left v u) ≡ true → Memᴰ u (side_of left g v)
in_side left g v u t =
    let e : Edge = side_edge left v u in
    let r = any_some (joins_live g.nodes e) g.links t in
    let j : joins e r.0 ≡ true = and_true_l (joins e r.0) (live_link g.nodes r.0) r.2 in
    let l : live_link g.nodes r.0 ≡ true = and_true_r (joins e r.0) (live_link g.nodes r.0) r.2 in
    rw (side_of_lem left g v) (in_rising (in_lines (side_ends left v) (in_keep (live_link g.nodes) r.1 l) (joins_side left v u r.0 j)))

pub right_member : (g : Graph) (v u : Handle) → Memᴰ u (right_of g v) ↔ (live_linked g (edge v u) ≡ true)
right_member g v u = (of_side false g v, in_side false g v u)

pub left_member : (g : Graph) (v u : Handle) → Memᴰ u (left_of g v) ↔ (live_linked g (edge u v) ≡ true)
left_member g v u = (of_side true g v, in_side true g v u)

-- both forms of a link are one
pub linked-turned : (g : Graph) (e : Edge) → live_linked g (turned e) ≡ live_linked g e
linked-turned g e =
    ap (λ (p : Link → Bool). any p g.links) (fun_ext (λ r. ap (λ (b : Bool). b && live_link g.nodes r) (joins-turned r)))
  where
    joins-turned : (r : Link) → joins (turned e) r ≡ joins e r
    joins-turned r =
        ap (λ (x : Edge). same_ends (turned e) (ends r) || same_ends x (ends r)) (turned-turned e) ∙ or_comm (same_ends (turned e) (ends r)) (same_ends e (ends r))

-- the left is the right of the flip
pub left-flip : (g : Graph) (v u : Handle) → Memᴰ u (left_of g v) ↔ Memᴰ (flip u) (right_of g (flip v))
left-flip g v u = (
  λ m. (right_member g (flip v) (flip u)).1 (linked-turned g (edge u v) ∙ (left_member g v u).0 m),
  λ m. (left_member g v u).1 (sym (linked-turned g (edge u v)) ∙ (right_member g (flip v) (flip u)).0 m),
)

-- the ends of a live link are live nodes
pub linked-live : (g : Graph) (e : Edge) → live_linked g e ≡ true → (live_node (id_of e.from) g.nodes ≡ true) × (live_node (id_of e.to) g.nodes ≡ true)
linked-live g e t =
    let r = any_some (joins_live g.nodes e) g.links t in
    let x : Link = r.0 in
    let alive : ℕ → Bool = λ i. live_node i g.nodes in
    let l : live_link g.nodes x ≡ true = and_true_r (joins e x) (live_link g.nodes x) r.2 in
    let p : alive (id_of x.from) ≡ true = and_true_r (eqb x.mark 0) (alive (id_of x.from)) (and_true_l (eqb x.mark 0 && alive (id_of x.from)) (alive (id_of x.to)) l) in
    let q : alive (id_of x.to) ≡ true = and_true_r (eqb x.mark 0 && alive (id_of x.from)) (alive (id_of x.to)) l in
    ⊎_elim
    (λ h.
    let s = same_ends_lem e (ends x) h in
    (ap (λ (y : Edge). alive (id_of y.from)) s ∙ p, ap (λ (y : Edge). alive (id_of y.to)) s ∙ q))
    (λ h.
    let s = same_ends_lem (turned e) (ends x) h in
    (ap alive (sym (id-flip e.from)) ∙ ap (λ (y : Edge). alive (id_of y.to)) s ∙ q, ap alive (sym (id-flip e.to)) ∙ ap (λ (y : Edge). alive (id_of y.from)) s ∙ p))
    (or_cases (same_ends e (ends x)) (same_ends (turned e) (ends x)) (and_true_l (joins e x) (live_link g.nodes x) r.2))

-- so a live neighbour is one, and where no live node has id 0 no neighbour's number is 0
pub side_live : (left : Bool) (g : Graph) (v : Handle) {u : Handle} → Memᴰ u (side_of left g v) → live_node (id_of u) g.nodes ≡ true
side_live true g v {u} m = (linked-live g (edge u v) (of_side true g v m)).0
side_live false g v {u} m = (linked-live g (edge v u) (of_side false g v m)).1

pub side_number : (left : Bool) (g : Graph) (v : Handle) → live_node 0 g.nodes ≡ false → (u : Handle) → Memᴰ u (side_of left g v) → 0 < u.packed
side_number left g v none u m = by (ltb 0 u.packed) refl
  where
    by : (b : Bool) → ltb 0 u.packed ≡ b → 0 < u.packed
    by true e = ltb-true 0 u.packed e
    by false e =
        let z : id_of u ≡ 0 = omega (arith, tests) in
        never (sym (sym (ap (λ (i : ℕ). live_node i g.nodes) z) ∙ side_live left g v m) ∙ none)

-- and in a well-formed graph no node has it
pub good_number : (g : Graph) → good_graph g ≡ true → live_node 0 g.nodes ≡ false
good_number g t =
    let nodes = all (good_node g.letters) g.nodes in
    let links = all (good_link g.nodes) g.links in
    none_of (live_here 0) g.nodes (λ r m. high r (all_mem (good_node g.letters) (and_true_l nodes links (and_true_l (nodes && links) (links_once g.links) t)) m))
  where
    high : (r : Node) → good_node g.letters r ≡ true → live_here 0 r ≡ false
    high r h =
        let a : Bool = is_id r.id && is_mark r.mark in
        let b : Bool = a && leb 1 r.len in
        let d : Bool = b && leb (r.start + r.len) (length g.letters) in
        let i = and_true_l (is_id r.id) (is_mark r.mark) (and_true_l a (leb 1 r.len) (and_true_l b (leb (r.start + r.len) (length g.letters)) (and_true_l d (all_letters (span g.letters r)) h))) in
        let l : leb 1 r.id ≡ true = and_true_l (leb 1 r.id) (leb r.id max_id) i in
        rw (ne_eqb r.id 0 (λ z. omega (arith, tests)))

-- the same set of live left neighbours
pub left_in_lem : (g : Graph) (u v : Handle) → (left_in g u v ≡ true) ↔ ((w : Handle) → live_linked g (edge w u) ≡ true → live_linked g (edge w v) ≡ true)
left_in_lem g u v = (
  λ t w l. all_mem (λ w. live_linked g (edge w v)) t ((left_member g u w).1 l),
  λ f. all_of (λ w. live_linked g (edge w v)) (left_of g u) (λ w m. f w ((left_member g u w).0 m)),
)

pub same_left_lem : (g : Graph) (u v : Handle) → (same_left g u v ≡ true) ↔ ((w : Handle) → live_linked g (edge w u) ≡ live_linked g (edge w v))
same_left_lem g u v = (
  λ t w. same_test _ _ ((left_in_lem g u v).0 (and_true_l (left_in g u v) (left_in g v u) t) w) ((left_in_lem g v u).0 (and_true_r (left_in g u v) (left_in g v u) t) w),
  λ f. and_both _ _ ((left_in_lem g u v).1 (λ w l. sym (f w) ∙ l)) ((left_in_lem g v u).1 (λ w l. f w ∙ l)),
)

pub same_left-refl : (g : Graph) (u : Handle) → same_left g u u ≡ true
same_left-refl g u = (same_left_lem g u u).1 (λ w. refl)

pub same_left-sym : (g : Graph) (u v : Handle) → same_left g u v ≡ true → same_left g v u ≡ true
same_left-sym g u v t = (same_left_lem g v u).1 (λ w. sym ((same_left_lem g u v).0 t w))

pub same_left_trans : (g : Graph) (u v w : Handle) → same_left g u v ≡ true → same_left g v w ≡ true → same_left g u w ≡ true
same_left_trans g u v w s t = (same_left_lem g u w).1 (λ x. (same_left_lem g u v).0 s x ∙ (same_left_lem g v w).0 t x)

-- and so the same list of them
pub same_left_list : (g : Graph) (u v : Handle) → (same_left g u v ≡ true) ↔ (left_of g u ≡ left_of g v)
same_left_list g u v = (
  λ t.
      let f = (same_left_lem g u v).0 t in
      sorted_same (side_sorted true g u) (side_sorted true g v)
      (λ w m. (left_member g v w).1 (sym (f w) ∙ (left_member g u w).0 m))
      (λ w m. (left_member g u w).1 (f w ∙ (left_member g v w).0 m)),
  λ e. (same_left_lem g u v).1 (λ w. same_test _ _
      (λ l. (left_member g v w).0 (rw (sym e) ((left_member g u w).1 l)))
      (λ l. (left_member g u w).0 (rw e ((left_member g v w).1 l)))),
)

-- none of this looks at the letters
pub bare-right : (nodes letters links : List ℕ) (c : Counts) (v : Handle) → right_of (bare nodes links c) v ≡ right_of (graph_of nodes letters links c) v
bare-right nodes letters links c v = refl

pub bare-left : (nodes letters links : List ℕ) (c : Counts) (v : Handle) → left_of (bare nodes links c) v ≡ left_of (graph_of nodes letters links c) v
bare-left nodes letters links c v = refl

pub bare-linked : (nodes letters links : List ℕ) (c : Counts) (e : Edge) → live_linked (bare nodes links c) e ≡ live_linked (graph_of nodes letters links c) e
bare-linked nodes letters links c e = refl

pub bare-same : (nodes letters links : List ℕ) (c : Counts) (u v : Handle) → same_left (bare nodes links c) u v ≡ same_left (graph_of nodes letters links c) u v
bare-same nodes letters links c u v = refl
