-- Live walks: two in a row with a live link between them, one turned round, the ends of both; a live walk is a walk.
use Prim.Native.Nat.{ℕ, ◌+◌}
use mathlib.Core.Path.{◌≡◌, refl, sym, ap, ◌∙◌}
use mathlib.Core.Bool.{true, ◌&&◌}
use mathlib.Core.List.{List, [], ◌∷◌, ◌++◌, Memᴰ}
use native.Mathlib.Omega.{arith}
use Rattle.std.specs.Prelude.{None}
use Rattle.kit.proofs.Bools.{never, and_true_l, and_true_r, and_both}
use Rattle.kit.proofs.Meaning.{all_of, any_mem, any_some}
use Rattle.handle.specs.declared.Handle.{Handle}
use Rattle.handle.specs.Handle.{id_of, flip}
use Rattle.handle.specs.declared.Edge.{Edge}
use Rattle.handle.specs.Edge.{edge}
use Rattle.handle.proofs.Handles.{id-flip, flip-flip}
use Rattle.store.specs.Graph.{Graph}
use Rattle.store.specs.Views.{stored, live_node, joins, linked, live_link, joins_live, live_linked}
use Rattle.sides.proofs.Sides.{linked-turned}
use Rattle.spelling.specs.Spelling.{turn_walk, gap_after}
use Rattle.spelling.proofs.Walks.{turn-turn}
use Rattle.keeping.specs.Kept.{last_of, first_of}
use Rattle.promises.specs.Walks.{Walk, live_walk}
use Rattle.store.proofs.Lookups.{live-stored}

last_snoc : (a : List Handle) (x : Handle) → last_of (a ++ (x ∷ [])) ≡ x
last_snoc [] x = refl
last_snoc (h ∷ []) x = refl
last_snoc (h ∷ k ∷ a) x = last_snoc (k ∷ a) x

module _ (g : Graph) where
  -- a walk of two steps and more, taken apart and put together
  pub record More (h k : Handle) (hs : List Handle) : Type 0 where
    pub node_live : live_node (id_of h) g.nodes ≡ true
    pub link_live : live_linked g (edge h k) ≡ true
    pub rest_live : live_walk g (k ∷ hs) ≡ true

  pub live_says : (h k : Handle) (hs : List Handle) → live_walk g (h ∷ k ∷ hs) ≡ true → More h k hs
  live_says h k hs t =
      let a = live_node (id_of h) g.nodes in
      let b = live_linked g (edge h k) in
      let ab = and_true_l (a && b) (live_walk g (k ∷ hs)) t in
      record { node_live = and_true_l a b ab; link_live = and_true_r a b ab; rest_live = and_true_r (a && b) (live_walk g (k ∷ hs)) t }

  pub says_live : (h k : Handle) (hs : List Handle) → More h k hs → live_walk g (h ∷ k ∷ hs) ≡ true
  says_live h k hs m = and_both _ _ (and_both _ _ m.node_live m.link_live) m.rest_live

  pub live_join : (a b : List Handle) → live_walk g a ≡ true → live_walk g b ≡ true → live_linked g (edge (last_of a) (first_of b)) ≡ true → live_walk g (a ++ b) ≡ true
  live_join [] b s t l = never (sym s)
  live_join (h ∷ []) [] s t l = never (sym t)
  live_join (h ∷ []) (k ∷ b) s t l = says_live h k b (record { node_live = s; link_live = l; rest_live = t })
  live_join (h ∷ k ∷ a) b s t l =
      let m = live_says h k a s in
      says_live h k (a ++ b) (record { node_live = m.node_live; link_live = m.link_live; rest_live = live_join (k ∷ a) b m.rest_live t l })

  -- where two live walks in a row are live, so is the link between them
  pub join_live : (a b : List Handle) → live_walk g a ≡ true → live_walk g b ≡ true → live_walk g (a ++ b) ≡ true → live_linked g (edge (last_of a) (first_of b)) ≡ true
  join_live [] b s t w = never (sym s)
  join_live (h ∷ []) [] s t w = never (sym t)
  join_live (h ∷ []) (k ∷ b) s t w = (live_says h k b w).link_live
  join_live (h ∷ k ∷ a) b s t w = join_live (k ∷ a) b (live_says h k a s).rest_live t (live_says h k (a ++ b) w).rest_live

  pub first-append : (a b : List Handle) → live_walk g a ≡ true → first_of (a ++ b) ≡ first_of a
  first-append [] b t = never (sym t)
  first-append (h ∷ a) b t = refl

  pub last_turn : (a : List Handle) → live_walk g a ≡ true → last_of (turn_walk a) ≡ flip (first_of a)
  last_turn [] t = never (sym t)
  last_turn (h ∷ a) t = last_snoc (turn_walk a) (flip h)

  -- a live walk is live the other way round
  pub live-turn : (a : List Handle) → live_walk g a ≡ true → live_walk g (turn_walk a) ≡ true
  live-turn [] t = never (sym t)
  live-turn (h ∷ []) t = ap (λ (i : ℕ). live_node i g.nodes) (id-flip h) ∙ t
  live-turn (h ∷ k ∷ a) t =
      let m = live_says h k a t in
      live_join (turn_walk (k ∷ a)) (flip h ∷ [])
      (live-turn (k ∷ a) m.rest_live)
      (ap (λ (i : ℕ). live_node i g.nodes) (id-flip h) ∙ m.node_live)
      (ap (λ (x : Handle). live_linked g (edge x (flip h))) (last_snoc (turn_walk a) (flip k)) ∙ linked-turned g (edge h k) ∙ m.link_live)

  pub first-turn : (a : List Handle) → live_walk g a ≡ true → first_of (turn_walk a) ≡ flip (last_of a)
  first-turn a t =
      sym (flip-flip (first_of (turn_walk a))) ∙ ap flip (sym (last_turn (turn_walk a) (live-turn a t)) ∙ ap last_of (turn-turn a))

  pub live_mem : (hs : List Handle) → live_walk g hs ≡ true → {h : Handle} → Memᴰ h hs → live_node (id_of h) g.nodes ≡ true
  live_mem [] t m = elim m [ ]
  live_mem (x ∷ []) t (Memᴰ.head e) = ap (λ (h : Handle). live_node (id_of h) g.nodes) e ∙ t
  live_mem (x ∷ []) t (Memᴰ.tail m) = elim m [ ]
  live_mem (x ∷ y ∷ hs) t (Memᴰ.head e) = ap (λ (h : Handle). live_node (id_of h) g.nodes) e ∙ (live_says x y hs t).node_live
  live_mem (x ∷ y ∷ hs) t (Memᴰ.tail m) = live_mem (y ∷ hs) (live_says x y hs t).rest_live m

  -- a live walk is a walk: none of 6 and 23 is due for it
  linked-stored : (e : Edge) → live_linked g e ≡ true → linked e g.links ≡ true
  linked-stored e t =
      let r = any_some (joins_live g.nodes e) g.links t in
      any_mem (joins e) r.1 (and_true_l (joins e r.0) (live_link g.nodes r.0) r.2)

  no_gap : (i : ℕ) (h : Handle) (hs : List Handle) → live_walk g (h ∷ hs) ≡ true → gap_after g.links i h hs ≡ None
  no_gap i h [] t = refl
  no_gap i h (k ∷ hs) t = let m = live_says h k hs t in rw (linked-stored (edge h k) m.link_live) (no_gap (i + 1) k hs m.rest_live)

  pub live-is_walk : (hs : List Handle) → live_walk g hs ≡ true → Walk g hs
  live-is_walk [] t = never (sym t)
  live-is_walk (h ∷ hs) t =
      record {
        some_step = omega arith;
        over_nodes = all_of (λ x. stored (id_of x) g.nodes) (h ∷ hs) (λ x m. live-stored (id_of x) g.nodes (live_mem (h ∷ hs) t m));
        over_links = no_gap 1 h hs t;
      }
