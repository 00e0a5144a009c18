-- Collapses only shorten or mark the nodes that were, so what an event speaks of is past: no live node has its key's id and
-- as many letters.
use Prim.Native.Nat.{ℕ, ◌+◌, ◌-◌, ◌≤◌, ◌<◌}
use mathlib.Core.Path.{◌≡◌, refl, sym, ap, ◌∙◌, subst}
use mathlib.Core.Bool.{Bool, true, false, cond}
use mathlib.Core.List.Memᴰ
use mathlib.Core.List.{List, [], ◌∷◌, map, Memᴰ}
use mathlib.Core.Logic.{⊎_elim}
use native.Mathlib.Omega.{arith}
use borrow.Author.Tests.{eqb-true, eqb-false}
use lib.Dec.{eqb}
use lib.ListN.{drop}
use Rattle.kit.proofs.Bools.{tests, never}
use Rattle.handle.specs.declared.Handle.{Handle}
use Rattle.handle.specs.Handle.{id_of}
use Rattle.store.specs.Graph.{Graph}
use Rattle.store.specs.declared.Node.{Node}
use Rattle.store.specs.Views.{node_named, stored, len_of, live_node, largest}
use Rattle.formed.specs.WellFormed.{ids_once}
use Rattle.split.specs.Split.{split, split_nodes}
use Rattle.split.proofs.Nodes.{stored-largest, named-v, named_other, stored-old, live-old}
use Rattle.events.specs.Events.{Event}
use Rattle.merging.specs.Merging.{is_long, is_forward, cut_at, alone, prefix_of, suffix_of, mark_node, later, later_all, collapsed}
use Rattle.merging.specs.Plan.{prefix_by}
use Rattle.merged.proofs.NodesAlone.{stored-marked, len-marked}
use Rattle.merged.proofs.Dim.{live_buried, live_beside}
use Rattle.merged.proofs.Alone.{Member, Turn}
use Rattle.merged.proofs.Members.{Collapses, member, same_len}
use Rattle.merged.proofs.Theorems.{Shares, turn, left, still, first, others, shares}
use Rattle.longer.specs.Ahead.{events_by}
use Rattle.longer.proofs.ByMember.{start_at, events_run, run_of}
use Rattle.store.proofs.Lookups.{live-stored}

-- the nodes that were are stored, none longer, and none live that was not
pub record Less (rs ts : List Node) : Type 0 where
  pub stays : (j : ℕ) → stored j rs ≡ true → stored j ts ≡ true
  pub shorter : (j : ℕ) → stored j rs ≡ true → (node_named j ts).len ≤ (node_named j rs).len
  pub was_live : (j : ℕ) → stored j rs ≡ true → live_node j ts ≡ true → live_node j rs ≡ true

less_same : (rs : List Node) → Less rs rs
less_same rs = record { stays = λ j t. t; shorter = λ j t. omega arith; was_live = λ j t l. l }

less_then : {rs ts us : List Node} → Less rs ts → Less ts us → Less rs us
less_then a b =
    record {
      stays = λ j t. b.stays j (a.stays j t);
      shorter = λ j t. omega (arith, a.shorter j t, b.shorter j (a.stays j t));
      was_live = λ j t l. a.was_live j t (b.was_live j (a.stays j t) l);
    }

-- a key is past where its node is stored, and is marked or shorter
pub record Past (rs : List Node) (id len : ℕ) : Type 0 where
  pub there : stored id rs ≡ true
  pub gone : live_node id rs ≡ true → (node_named id rs).len < len

pub still_past : {rs ts : List Node} {id len : ℕ} → Less rs ts → Past rs id len → Past ts id len
still_past {rs} {ts} {id} a h =
    record {
      there = a.stays id h.there;
      gone = λ l. omega (arith, a.shorter id h.there, h.gone (a.was_live id h.there l));
    }

-- neither the key of a live node with its letters or fewer, nor one of a fresh id
pub live-not_past : {rs : List Node} (id len : ℕ) → live_node id rs ≡ true → len ≤ (node_named id rs).len → Past rs id len → ⊥
live-not_past id len l h a = omega (arith, a.gone l)

pub fresh-not_past : {rs : List Node} (id len : ℕ) → largest rs < id → Past rs id len → ⊥
fresh-not_past {rs} id len h a = omega (arith, stored-largest id rs a.there)

less_marked : (i : ℕ) (rs : List Node) → Less rs (map (mark_node i) rs)
less_marked i rs =
    record {
      stays = λ j t. stored-marked i j rs ∙ t;
      shorter = λ j t. omega (arith, len-marked i j rs);
      was_live = λ j t. by j (eqb j i) refl;
    }
  where
    by : (j : ℕ) (b : Bool) → eqb j i ≡ b → live_node j (map (mark_node i) rs) ≡ true → live_node j rs ≡ true
    by j true e l = never (sym l ∙ ap (λ (n : ℕ). live_node n (map (mark_node i) rs)) (eqb-true j i e) ∙ live_buried i rs)
    by j false e l = sym (live_beside i rs j (eqb-false j i e)) ∙ l

module _ (id k : ℕ) (rs : List Node) (once : ids_once rs ≡ true) (is : stored id rs ≡ true) (low : k < (node_named id rs).len) where
  not_new : (j : ℕ) → stored j rs ≡ true → j ≡ largest rs + 1 → ⊥
  not_new j t e = omega (arith, stored-largest j rs t)

  cut-len : (node_named id (split_nodes id k rs)).len ≡ k
  cut-len = ap (λ (r : Node). r.len) (named-v id k rs once is)

  less_split : Less rs (split_nodes id k rs)
  less_split =
      record {
        stays = λ j t. stored-old id k rs once is j (not_new j t) ∙ t;
        shorter = λ j t. by j t (eqb j id) refl;
        was_live = λ j t l. sym (live-old id k rs once is j (not_new j t)) ∙ l;
      }
    where
      by : (j : ℕ) → stored j rs ≡ true → (b : Bool) → eqb j id ≡ b → (node_named j (split_nodes id k rs)).len ≤ (node_named j rs).len
      by j t true e = rw (eqb-true j id e) (omega (arith, cut-len))
      by j t false e = omega (arith, ap (λ (r : Node). r.len) (named_other id k rs once is j t (eqb-false j id e)))

  past_split : Past (split_nodes id k rs) id (node_named id rs).len
  past_split = record { there = less_split.stays id is; gone = λ l. omega (arith, cut-len) }

-- one member's turn
module _ (p : ℕ) (g : Graph) (m : Handle) (a : Member p g m) where
  is : stored (id_of m) g.nodes ≡ true
  is = live-stored (id_of m) g.nodes a.live

  cut_low : is_long p g m ≡ true → cut_at p g m < len_of g (id_of m)
  cut_low e = by (is_forward m)
    where
      by : (b : Bool) → cond b p (len_of g (id_of m) - p) < len_of g (id_of m)
      by true = omega (arith, tests)
      by false = omega (arith, tests, a.low)

  less_alone : Less g.nodes (alone p g m).nodes
  less_alone = by (is_long p g m) refl
    where
      by : (b : Bool) → is_long p g m ≡ b → Less g.nodes (cond b (split (id_of m) (cut_at p g m) g) g).nodes
      by true e = less_split (id_of m) (cut_at p g m) g.nodes a.once is (cut_low e)
      by false e = less_same g.nodes

  past_alone : is_long p g m ≡ true → Past (alone p g m).nodes (id_of m) (len_of g (id_of m))
  past_alone e = rw e (past_split (id_of m) (cut_at p g m) g.nodes a.once is (cut_low e))

  module _ (x : Handle) where
    abbrev marking : Less (alone p g m).nodes (later p x g m).nodes
    marking = less_marked (id_of (prefix_of p g m)) (alone p g m).nodes

    less_later : Less g.nodes (later p x g m).nodes
    less_later = less_then less_alone marking

    past_later : Past (later p x g m).nodes (id_of m) (len_of g (id_of m))
    past_later = by (is_long p g m) refl
      where
        by : (b : Bool) → is_long p g m ≡ b → Past (later p x g m).nodes (id_of m) (len_of g (id_of m))
        by true e = still_past marking (past_alone e)
        by false e =
            let i : id_of m ≡ id_of (prefix_of p g m) = rw e in
            record {
              there = less_later.stays (id_of m) is;
              gone = λ l. never (sym l ∙ ap (λ (j : ℕ). live_node j (later p x g m).nodes) i ∙ live_buried (id_of (prefix_of p g m)) (alone p g m).nodes);
            }

-- k is g after the turns of these members and perhaps others
pub record Spent (g : Graph) (ms : List Handle) (k : Graph) : Type 0 where
  pub less : Less g.nodes k.nodes
  pub past : (u : Handle) → Memᴰ u ms → Past k.nodes (id_of u) (len_of g (id_of u))

-- one turn, then those of the others
module _ (p : ℕ) (g : Graph) (m : Handle) (ms : List Handle) (h k : Graph) (c : Collapses p g (m ∷ ms)) (t : Turn p g m (is_long p g m) (suffix_of g m) h) (a : Less g.nodes h.nodes) (r : Spent h ms k) where
  spent_others : Spent g ms k
  spent_others =
      record {
        less = less_then a r.less;
        past = λ u i. subst (Past k.nodes (id_of u)) (same_len p g m ms c h t i) (r.past u i);
      }

  spent_one : Past h.nodes (id_of m) (len_of g (id_of m)) → Spent g (m ∷ ms) k
  spent_one q =
      record {
        less = less_then a r.less;
        past = λ u i. ⊎_elim (λ e. rw e (still_past r.less q)) (spent_others.past u) (Memᴰ.cases_cons i);
      }

all_spent : (p : ℕ) (x : Handle) (ms : List Handle) (g : Graph) → Collapses p g ms → Shares x g ms → Spent g ms (later_all p x g ms)
all_spent p x [] g c s = record { less = less_same g.nodes; past = λ u i. absurd (Memᴰ.not-nil i) }
all_spent p x (m ∷ ms) g c s =
    let h = later p x g m in
    let a = member p g m ms c in
    spent_one p g m ms h (later_all p x h ms) c (turn p x g m ms c s) (less_later p g m a x)
    (all_spent p x ms h (left p x g m ms c s) (still p x g m ms c s)) (past_later p g m a x)

-- a collapse: the members that have an event are spent
module _ (p : ℕ) (g : Graph) (m : Handle) (ms : List Handle) (c : Collapses p g (m ∷ ms)) where
  abbrev k : Graph
  k = collapsed p g (m ∷ ms)

  pub spent : Spent g (drop (start_at p g.nodes m) (m ∷ ms)) k
  spent = by (is_long p g m) refl
    where
      h : Graph
      h = alone p g m

      rest : Spent h ms k
      rest = all_spent p (prefix_of p g m) ms h (others p g m ms c) (shares p g m ms c)

      by : (b : Bool) → is_long p g m ≡ b → Spent g (drop (cond b 0 1) (m ∷ ms)) k
      by true e = spent_one p g m ms h k c (first p g m ms c).turn (less_alone p g m (member p g m ms c)) rest (past_alone p g m (member p g m ms c) e)
      by false e = spent_others p g m ms h k c (first p g m ms c).turn (less_alone p g m (member p g m ms c)) rest

  -- so their keys are past
  pub keys_past : {e : Event} → Memᴰ e (events_by p g.nodes (m ∷ ms)) → Past k.nodes e.id e.len
  keys_past {e} i =
      let x = prefix_by p g.nodes (largest g.nodes + 1) m in
      let us = drop (start_at p g.nodes m) (m ∷ ms) in
      let r = run_of p g.nodes x (largest g.nodes + 1) us (subst (Memᴰ e) (events_run p g.nodes m ms) i) in
      rw r.made (spent.past r.member r.within)
