-- A later member's turn: the shared node x takes its place.
use Prim.Native.Nat.{ℕ, ◌+◌}
use mathlib.Core.Path.{◌≡◌, refl, ap, ◌∙◌}
use mathlib.Core.Bool.{Bool, true, false, cond}
use mathlib.Core.List.{List, [], ◌∷◌, map}
use native.Mathlib.Omega.{arith}
use Rattle.kit.specs.Loops.{all}
use Rattle.kit.proofs.Bools.{and_both}
use Rattle.kit.proofs.Meaning.{all_map, all_mem, all_of}
use Rattle.handle.specs.declared.Handle.{Handle}
use Rattle.handle.specs.Handle.{id_of, flip, same_handle}
use Rattle.handle.specs.Edge.{edge}
use Rattle.handle.proofs.Handles.{id-flip}
use Rattle.store.specs.Graph.{Graph}
use Rattle.store.specs.declared.Link.{Link}
use Rattle.store.specs.Views.{stored, live_node, live_letters, linked}
use Rattle.sides.specs.Sides.{right_of}
use Rattle.sides.proofs.Sides.{side_live}
use Rattle.split.specs.Split.{fresh_id}
use Rattle.merging.specs.Merging.{is_long, alone, prefix_of, suffix_of, add_links, joined, read_as, passed, later}
use Rattle.merging.specs.Plan.{dim, bury, alone_links, passed_by, later_links}
use Rattle.merged.proofs.NodesAlone.{stored-marked}
use Rattle.merged.proofs.Dim.{live_beside, dims_bury, adds_dim, rights_are}
use Rattle.merged.proofs.Formed.{joined_good, marked_good, marked-once, marked-largest, marked_beside, marked-letters}
use Rattle.merged.proofs.Parts.{still_holds, add_linked, adds_keep}
use Rattle.merged.proofs.Alone.{Member, Turn, Alone, stands}
use Rattle.store.proofs.Lookups.{live-stored}

module _ (p : ℕ) (x : Handle) (g : Graph) (m : Handle) (a : Member p g m) (alive : live_node (id_of x) g.nodes ≡ true) where
  abbrev h : Graph
  h = alone p g m

  -- the prefix, which is marked, the suffix, and what x is linked to
  abbrev i : ℕ
  i = id_of (prefix_of p g m)

  abbrev y : Handle
  y = suffix_of g m

  abbrev ys : List Handle
  ys = passed p x g m

  abbrev drawing : List Link
  drawing = map (dim g.nodes) g.links

  s : Alone p g m (is_long p g m) (prefix_of p g m) y h
  s = stands p g m a

  x-live : live_node (id_of x) h.nodes ≡ true
  x-live = s.stays (id_of x) alive

  -- x is linked to live nodes
  read_live : (u : Handle) → live_node (id_of u) g.nodes ≡ true → live_node (id_of (read_as m x u)) h.nodes ≡ true
  read_live u t =
      elim (same_handle u m) as (λ b. live_node (id_of (cond b x (cond (same_handle u (flip m)) (flip x) u))) h.nodes ≡ true) [
        | true ↦ x-live
        | false ↦ elim (same_handle u (flip m)) as (λ b. live_node (id_of (cond b (flip x) u)) h.nodes ≡ true) [
          | true ↦ ap (λ (j : ℕ). live_node j h.nodes) (id-flip x) ∙ x-live
          | false ↦ s.stays (id_of u) t
        ]
      ]

  ys-live : all (λ u. live_node (id_of u) h.nodes) ys ≡ true
  ys-live = by (is_long p g m) refl
    where
      by : (b : Bool) → is_long p g m ≡ b → all (λ u. live_node (id_of u) h.nodes) (cond b (y ∷ []) (map (read_as m x) (right_of g m))) ≡ true
      by true e = and_both _ true (s.turn.rest e).live refl
      by false e =
          all_map (λ u. live_node (id_of u) h.nodes) (read_as m x) (right_of g m)
          ∙ all_of _ (right_of g m) (λ u k. read_live u (side_live false g m k))

  ys-stored : all (λ u. stored (id_of u) h.nodes) ys ≡ true
  ys-stored = all_of _ ys (λ u k. live-stored (id_of u) h.nodes (all_mem (λ u. live_node (id_of u) h.nodes) ys-live k))

  -- the plan's links after this turn
  ys_are : ys ≡ passed_by p g.nodes x (fresh_id g) drawing m
  ys_are = ap (λ (l : List Handle). cond (is_long p g m) (y ∷ []) (map (read_as m x) l)) (rights_are g m)

  pub later_drawn : map (dim (later p x g m).nodes) (later p x g m).links ≡ later_links p g.nodes x (fresh_id g) drawing m
  later_drawn =
      dims_bury i h.nodes (add_links x ys h.links)
      ∙ ap (map (bury i)) (adds_dim h.nodes x x-live ys ys-live h.links)
      ∙ ap (λ (l : List Link). map (bury i) (add_links x ys l)) s.drawn
      ∙ ap (λ (us : List Handle). map (bury i) (add_links x us (alone_links p g.nodes (fresh_id g) drawing m))) ys_are

  pub later-turn : Turn p g m (is_long p g m) y (later p x g m)
  later-turn =
      let t = s.turn in
      record {
        good = marked_good i (joined x ys h) (joined_good h x ys (live-stored (id_of x) h.nodes x-live) ys-stored t.good);
        once = marked-once i h.nodes t.once;
        letters_same = t.letters_same;
        fresh = ap (λ (n : ℕ). n + 1) (marked-largest i h.nodes) ∙ t.fresh;
        other_stored = λ j q. stored-marked i j h.nodes ∙ t.other_stored j q;
        other_live = λ j n q. live_beside i h.nodes j (s.first_new j n (live-stored j g.nodes q)) ∙ t.other_live j n q;
        other_same = λ j n q. marked_beside i j (s.first_new j n q) h.nodes ∙ t.other_same j n q;
        other_linked = λ e n o q. adds_keep e x ys h.links (t.other_linked e n o q);
        rest = λ e.
            still_holds h (later p x g m) y refl
            (marked_beside i (id_of y) (s.rest_apart e) h.nodes)
            (live_beside i h.nodes (id_of y) (s.rest_apart e) ∙ (t.rest e).live)
            (t.rest e);
        rest_new = t.rest_new;
      }

  -- a long one's suffix is linked from x
  pub later-linked : is_long p g m ≡ true → linked (edge x y) (later p x g m).links ≡ true
  later-linked e =
      ap (λ (b : Bool). linked (edge x y) (add_links x (cond b (y ∷ []) (map (read_as m x) (right_of g m))) h.links)) e
      ∙ add_linked (edge x y) h.links

  -- its p letters are live no more
  pub later_falls : live_letters (later p x g m).nodes + p ≡ live_letters g.nodes
  later_falls = omega (arith, marked-letters i h.nodes s.turn.once s.first.live, s.first.len, s.sum_same)
