-- A member's first p letters stand alone: what that makes, and what it leaves as it was.
use Prim.Native.Nat.{ℕ, ◌+◌, ◌-◌, ◌≤◌, ◌<◌}
use mathlib.Core.Path.{◌≡◌, refl, sym, ap, ap₂, ◌∙◌, subst}
use mathlib.Core.Bool.{Bool, true, false, cond}
use mathlib.Core.List.{map, ◌++◌}
use native.Mathlib.Omega.{arith}
use lib.ListN.{take, drop, length}
use lib.Seq.{take_all}
use Rattle.kit.proofs.Bools.{tests, never, and_true_l, and_true_r}
use Rattle.kit.proofs.Meaning.{any_mem}
use Rattle.handle.specs.declared.Handle.{Handle}
use Rattle.handle.specs.declared.Edge.{Edge}
use Rattle.handle.specs.Handle.{max_id, id_of, dir_of, pack}
use Rattle.handle.specs.Edge.{edge, written}
use Rattle.handle.proofs.Handles.{id-pack, pack_unpack, dir_small, flip-reverse}
use Rattle.handle.proofs.Edges.{written-turned, same-written}
use Rattle.store.specs.Graph.{Graph}
use Rattle.store.specs.declared.Node.{Node}
use Rattle.store.specs.Views.{node_named, stored, len_of, live_node, live_letters, spell, joins, linked}
use Rattle.formed.specs.WellFormed.{good_graph, ids_once}
use Rattle.formed.proofs.Says.{graph_says}
use Rattle.split.specs.Split.{fresh_id, split, split_links}
use Rattle.split.proofs.Nodes.{stored-largest, named-v, named-fresh, stored-old, live-old, live-fresh}
use Rattle.split.proofs.Theorems.{Splits, good_split, once_after, letters-kept, others-kept, fresh_after_lem, spell-forward, spell-reverse, new-link, linked-kept}
use Rattle.merging.specs.Merging.{is_long, is_forward, alone, prefix_of, suffix_of}
use Rattle.merging.specs.Plan.{dim}
use Rattle.merged.proofs.Dim.{dims_split}
use Rattle.merged.proofs.Parts.{Holds, read_length, front-part, back_part, linked-stored, unmoved}
use Rattle.store.proofs.Lookups.{live-stored}

-- what is taken for granted of a member, in the graph before its turn
pub record Member (p : ℕ) (g : Graph) (m : Handle) : Type 0 where
  pub good : good_graph g ≡ true
  pub once : ids_once g.nodes ≡ true
  pub low : 0 < p
  pub live : live_node (id_of m) g.nodes ≡ true
  pub reach : p ≤ len_of g (id_of m)
  pub fits : is_long p g m ≡ true → fresh_id g ≤ max_id

-- x has the first p letters of m; y has the rest
abbrev pub First : ℕ → Graph → Handle → Graph → Handle → Type 0
First p g m h x = Holds h x (take p (spell g m)) p

abbrev pub Rest : ℕ → Graph → Handle → Graph → Handle → Type 0
Rest p g m h y = Holds h y (drop p (spell g m)) (len_of g (id_of m) - p)

-- h is g after the member's turn; `long` says that it is long, y is its suffix then
pub record Turn (p : ℕ) (g : Graph) (m : Handle) (long : Bool) (y : Handle) (h : Graph) : Type 0 where
  pub good : good_graph h ≡ true
  pub once : ids_once h.nodes ≡ true
  pub letters_same : h.letters ≡ g.letters
  pub fresh : fresh_id h ≡ cond long (fresh_id g + 1) (fresh_id g)
  pub other_stored : (j : ℕ) → stored j g.nodes ≡ true → stored j h.nodes ≡ true
  pub other_live : (j : ℕ) → (j ≡ id_of m → ⊥) → live_node j g.nodes ≡ true → live_node j h.nodes ≡ true
  pub other_same : (j : ℕ) → (j ≡ id_of m → ⊥) → stored j g.nodes ≡ true → node_named j h.nodes ≡ node_named j g.nodes
  pub other_linked : (e : Edge) → (id_of e.from ≡ id_of m → ⊥) → (id_of e.to ≡ id_of m → ⊥) → linked e g.links ≡ true → linked e h.links ≡ true
  pub rest : long ≡ true → Rest p g m h y
  pub rest_new : long ≡ true → (j : ℕ) → (j ≡ id_of m → ⊥) → stored j g.nodes ≡ true → j ≡ id_of y → ⊥

-- the same while the prefix x is still live
pub record Alone (p : ℕ) (g : Graph) (m : Handle) (long : Bool) (x y : Handle) (h : Graph) : Type 0 where
  pub turn : Turn p g m long y h
  pub drawn : map (dim h.nodes) h.links ≡ cond long (split_links (id_of m) (fresh_id g) (map (dim g.nodes) g.links)) (map (dim g.nodes) g.links)
  pub stays : (j : ℕ) → live_node j g.nodes ≡ true → live_node j h.nodes ≡ true
  pub sum_same : live_letters h.nodes ≡ live_letters g.nodes
  pub first : First p g m h x
  pub first_new : (j : ℕ) → (j ≡ id_of m → ⊥) → stored j g.nodes ≡ true → j ≡ id_of x → ⊥
  pub rest_apart : long ≡ true → id_of y ≡ id_of x → ⊥
  pub rest_linked : long ≡ true → linked (edge x y) h.links ≡ true

-- one of the two parts of the node `id` of g, in h
record Piece (g : Graph) (id : ℕ) (h : Graph) (u : Handle) (n : ℕ) : Type 0 where
  live : live_node (id_of u) h.nodes ≡ true
  len : len_of h (id_of u) ≡ n
  new : (j : ℕ) → (j ≡ id → ⊥) → stored j g.nodes ≡ true → j ≡ id_of u → ⊥

module _ (p : ℕ) (g : Graph) (m : Handle) (a : Member p g m) where
  abbrev id : ℕ
  id = id_of m

  abbrev fresh : ℕ
  fresh = fresh_id g

  is : stored id g.nodes ≡ true
  is = live-stored id g.nodes a.live

  -- an exact member
  exact : is_long p g m ≡ false → Alone p g m false m (suffix_of g m) g
  exact e =
      let n : len_of g id ≡ p = omega (arith, tests, a.reach) in
      record {
        turn = record {
          good = a.good;
          once = a.once;
          letters_same = refl;
          fresh = refl;
          other_stored = λ j t. t;
          other_live = λ j o t. t;
          other_same = λ j o t. refl;
          other_linked = λ d o q t. t;
          rest = λ t. never (sym t);
          rest_new = λ t. never (sym t);
        };
        drawn = refl;
        stays = λ j t. t;
        sum_same = refl;
        first = record { live = a.live; len = n; reads = sym (take_all p (spell g m) (omega (arith, read_length g a.good m is))) };
        first_new = λ j o t. o;
        rest_apart = λ t. never (sym t);
        rest_linked = λ t. never (sym t);
      }

  -- a long member, split at k
  module _ (k : ℕ) (s : Splits g id k) where
    abbrev h : Graph
    h = split id k g

    abbrev v : Handle
    v = pack id 0

    abbrev f : Handle
    f = pack fresh 0

    new-id : (j : ℕ) → stored j g.nodes ≡ true → j ≡ fresh → ⊥
    new-id j t e = omega (arith, stored-largest j g.nodes t)

    stays_live : (j : ℕ) → live_node j g.nodes ≡ true → live_node j h.nodes ≡ true
    stays_live j t = live-old id k g.nodes a.once is j (new-id j (live-stored j g.nodes t)) ∙ t

    stays_linked : (e : Edge) → (id_of e.from ≡ id → ⊥) → (id_of e.to ≡ id → ⊥) → linked e g.links ≡ true → linked e h.links ≡ true
    stays_linked e n o t =
        let is-v = id-pack id 0 (omega arith) in
        let b = linked-stored g a.good e t in
        let from = stored (id_of e.from) g.nodes in
        let to = stored (id_of e.to) g.nodes in
        ap (λ (d : Edge). linked d h.links) (sym (unmoved v f e (λ q. n (q ∙ is-v)) (λ q. o (q ∙ is-v))))
        ∙ linked-kept g id k s e (and_true_l from to b) (and_true_r from to b) ∙ t

    -- v keeps k letters; the fresh node, either way round, has the rest
    kept_piece : Piece g id h m k
    kept_piece =
        record {
          live = stays_live id a.live;
          len = ap (λ (r : Node). r.len) (named-v id k g.nodes a.once is);
          new = λ j o t. o;
        }

    module _ (d : ℕ) (small : d ≤ 1) where
      on-fresh : id_of (pack fresh d) ≡ fresh
      on-fresh = id-pack fresh d small

      not-fresh : (j : ℕ) → stored j g.nodes ≡ true → j ≡ id_of (pack fresh d) → ⊥
      not-fresh j t e = new-id j t (e ∙ on-fresh)

      fresh_piece : Piece g id h (pack fresh d) (len_of g id - k)
      fresh_piece =
          record {
            live = ap (λ (j : ℕ). live_node j h.nodes) on-fresh ∙ live-fresh id k g.nodes a.once is ∙ a.live;
            len = ap (len_of h) on-fresh ∙ ap (λ (r : Node). r.len) (named-fresh id k g.nodes a.once is);
            new = λ j o. not-fresh j;
          }

    -- x has the first p letters, y the rest, and the new link leads from x to y
    parted : (x y : Handle) → Piece g id h x p → Piece g id h y (len_of g id - p) → (id_of y ≡ id_of x → ⊥) → spell g m ≡ spell h x ++ spell h y → written (edge x y) ≡ written (edge v f) → Alone p g m true x y h
    parted x y c d apart whole form =
        let n : length (spell h x) ≡ p = read_length h (good_split g id k s) x (live-stored (id_of x) h.nodes c.live) ∙ c.len in
        record {
          turn = record {
            good = good_split g id k s;
            once = once_after g id k s;
            letters_same = refl;
            fresh = fresh_after_lem g id k s;
            other_stored = λ j t. stored-old id k g.nodes a.once is j (new-id j t) ∙ t;
            other_live = λ j o. stays_live j;
            other_same = λ j o t. others-kept g id k s j t o;
            other_linked = stays_linked;
            rest = λ q. record { live = d.live; len = d.len; reads = back_part p (spell g m) (spell h x) (spell h y) whole n };
            rest_new = λ q. d.new;
          };
          drawn = dims_split g.nodes id k a.once is a.live g.links (graph_says g a.good).links_good;
          stays = stays_live;
          sum_same = letters-kept g id k s;
          first = record { live = c.live; len = c.len; reads = front-part p (spell g m) (spell h x) (spell h y) whole n };
          first_new = c.new;
          rest_apart = λ q. apart;
          rest_linked = λ q. any_mem (joins (edge x y)) (new-link g id k s) (same-written (edge x y) (edge v f) form);
        }

  splits : (k : ℕ) → is_long p g m ≡ true → 0 < k → k < len_of g id → Splits g id k
  splits k e l h = record { good = a.good; once = a.once; low = l; high = h; fits = a.fits e }

  forward : is_long p g m ≡ true → is_forward m ≡ true → Alone p g m true m (pack fresh 0) (split id p g)
  forward e q =
      let s = splits p e a.low (omega (arith, tests)) in
      let d : dir_of m ≡ 0 = omega (arith, tests) in
      let is_m : pack id 0 ≡ m = ap (pack id) (sym d) ∙ pack_unpack m in
      parted p s m (pack fresh 0) (kept_piece p s) (fresh_piece p s 0 (omega arith))
      (λ o. not-fresh p s 0 (omega arith) id is (sym o))
      (subst (λ (u : Handle). spell g u ≡ spell (split id p g) u ++ spell (split id p g) (pack fresh 0)) is_m (spell-forward g id p s))
      (ap (λ (u : Handle). written (edge u (pack fresh 0))) (sym is_m))

  reverse : is_long p g m ≡ true → is_forward m ≡ false → Alone p g m true (pack fresh 1) m (split id (len_of g id - p) g)
  reverse e q =
      let k = len_of g id - p in
      let more : p < len_of g id = omega (arith, tests) in
      let s = splits k e (omega arith) (omega (arith, a.low)) in
      let back : len_of g id - k ≡ p = omega arith in
      let d : dir_of m ≡ 1 = omega (arith, tests, dir_small m) in
      let is_m : pack id 1 ≡ m = ap (pack id) (sym d) ∙ pack_unpack m in
      parted k s (pack fresh 1) m (subst (Piece g id (split id k g) (pack fresh 1)) back (fresh_piece k s 1 (omega arith))) (kept_piece k s)
      (not-fresh k s 1 (omega arith) id is)
      (subst (λ (u : Handle). spell g u ≡ spell (split id k g) (pack fresh 1) ++ spell (split id k g) u) is_m (spell-reverse g id k s))
      (ap (λ (u : Handle). written (edge (pack fresh 1) u)) (sym is_m)
      ∙ sym (written-turned (edge (pack fresh 1) (pack id 1)))
      ∙ ap₂ (λ (u w : Handle). written (edge u w)) (flip-reverse id) (flip-reverse fresh))

  pub stands : Alone p g m (is_long p g m) (prefix_of p g m) (suffix_of g m) (alone p g m)
  stands = by (is_long p g m) (is_forward m) refl refl
    where
      by : (b c : Bool) → is_long p g m ≡ b → is_forward m ≡ c → Alone p g m b (cond b (cond c m (pack fresh 1)) m) (cond c (pack fresh 0) m) (cond b (split id (cond c p (len_of g id - p)) g) g)
      by true true e q = forward e q
      by true false e q = reverse e q
      by false c e q = subst (λ (c : Bool). Alone p g m false m (cond c (pack fresh 0) m) g) q (exact e)
