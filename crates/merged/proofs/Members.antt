-- The members one after another: what a collapse takes for granted holds again for those that are left, and what one turn
-- leaves as it was the next ones do.
use Prim.Native.Nat.{ℕ, zero, suc, ◌+◌, ◌-◌, ◌≤◌, ◌<◌}
use mathlib.Core.Path.{◌≡◌, refl, sym, ap, ap₂, ◌∙◌, subst}
use mathlib.Core.Bool.{Bool, true, false, cond}
use mathlib.Core.List.{List, [], ◌∷◌, Memᴰ}
use native.Mathlib.Nat.{le_of_suc-le-suc, not-suc-le-zero}
use native.Mathlib.Omega.{arith}
use borrow.Author.Tests.{leb-true}
use lib.Dec.{ltb, leb}
use lib.ListN.{length, take, drop, get_or, take-append-drop}
use Rattle.kit.specs.Loops.{all, distinct, count}
use Rattle.kit.proofs.Meaning.{all_mem, all_of, mem_at, distinct-rest}
use Rattle.handle.specs.declared.Handle.{Handle}
use Rattle.handle.specs.declared.Edge.{Edge}
use Rattle.handle.specs.Handle.{max_id, id_of, dir_of}
use Rattle.handle.specs.Edge.{edge}
use Rattle.letters.specs.Sequences.{oriented}
use Rattle.store.specs.Graph.{Graph}
use Rattle.store.specs.declared.Node.{Node}
use Rattle.store.specs.Views.{node_named, stored, len_of, live_node, largest, span, linked}
use Rattle.formed.specs.WellFormed.{good_graph, ids_once}
use Rattle.split.specs.Split.{fresh_id}
use Rattle.merging.specs.Merging.{is_long, suffix_of}
use Rattle.merging.specs.Plan.{suffix_by}
use Rattle.merged.proofs.NodesAlone.{same_id, other-id, count_same}
use Rattle.merged.proofs.Parts.{Holds, still_holds}
use Rattle.merged.proofs.Alone.{Member, Rest, Turn}
use Rattle.store.proofs.Lookups.{live-stored}

-- the store is well formed; the members are live nodes, none twice, of p letters or more; their fresh ids are in range
pub record Collapses (p : ℕ) (g : Graph) (ms : List Handle) : Type 0 where
  pub good : good_graph g ≡ true
  pub once : ids_once g.nodes ≡ true
  pub live : all (λ m. live_node (id_of m) g.nodes) ms ≡ true
  pub apart : distinct same_id ms ≡ true
  pub low : 0 < p
  pub reach : all (λ m. leb p (len_of g (id_of m))) ms ≡ true
  pub fits : largest g.nodes + count (is_long p g) ms ≤ max_id

-- no member is on the node j
abbrev pub Off : ℕ → List Handle → Type 0
Off j ms = (m : Handle) → Memᴰ m ms → j ≡ id_of m → ⊥

module _ (p : ℕ) (g : Graph) (m : Handle) (ms : List Handle) (c : Collapses p g (m ∷ ms)) where
  member_live : {u : Handle} → Memᴰ u (m ∷ ms) → live_node (id_of u) g.nodes ≡ true
  member_live k = all_mem (λ u. live_node (id_of u) g.nodes) c.live k

  member_reach : {u : Handle} → Memᴰ u (m ∷ ms) → leb p (len_of g (id_of u)) ≡ true
  member_reach k = all_mem (λ u. leb p (len_of g (id_of u))) c.reach k

  pub member_stored : {u : Handle} → Memᴰ u (m ∷ ms) → stored (id_of u) g.nodes ≡ true
  member_stored {u} k = live-stored (id_of u) g.nodes (member_live k)

  pub member : Member p g m
  member =
      record {
        good = c.good;
        once = c.once;
        low = c.low;
        live = member_live (mathlib.Core.List.Memᴰ.head refl);
        reach = leb-true p _ (member_reach (mathlib.Core.List.Memᴰ.head refl));
        fits = λ e. let one : ◌≡◌ {A = ℕ} (cond (is_long p g m) 1 0) 1 = ap (λ (b : Bool). cond b 1 0) e in omega (arith, c.fits);
      }

  -- after this member's turn
  module _ (h : Graph) (t : Turn p g m (is_long p g m) (suffix_of g m) h) where
    pub same_len : {u : Handle} → Memᴰ u ms → len_of h (id_of u) ≡ len_of g (id_of u)
    same_len {u} k = ap (λ (r : Node). r.len) (t.other_same (id_of u) (other-id m ms c.apart k) (member_stored (mathlib.Core.List.Memᴰ.tail k)))

    pub same-long : (u : Handle) → Memᴰ u ms → is_long p h u ≡ is_long p g u
    same-long u k = ap (ltb p) (same_len k)

    -- the fresh ids go on
    fresh_on : (us : List Handle) → count (is_long p h) us ≡ count (is_long p g) us → fresh_id h + count (is_long p h) us ≡ fresh_id g + count (is_long p g) (m ∷ us)
    fresh_on us e = by (is_long p g m) t.fresh
      where
        by : (b : Bool) → fresh_id h ≡ cond b (fresh_id g + 1) (fresh_id g) → fresh_id h + count (is_long p h) us ≡ fresh_id g + (cond b 1 0 + count (is_long p g) us)
        by true q = omega arith
        by false q = omega arith

    pub next : Collapses p h ms
    next =
        record {
          good = t.good;
          once = t.once;
          live = all_of _ ms (λ u k. t.other_live (id_of u) (other-id m ms c.apart k) (member_live (mathlib.Core.List.Memᴰ.tail k)));
          apart = distinct-rest same_id m ms c.apart;
          low = c.low;
          reach = all_of _ ms (λ u k. ap (leb p) (same_len k) ∙ member_reach (mathlib.Core.List.Memᴰ.tail k));
          fits = omega (arith, fresh_on ms (count_same _ _ ms same-long), c.fits);
        }

-- the suffix of the i-th member, if it is long: fresh ids are given in the members' order
abbrev pub suffix_at : ℕ → Graph → List Handle → ℕ → Handle → Handle
suffix_at p g ms i d = suffix_by (fresh_id g + count (is_long p g) (take i ms)) (get_or ms i d)

-- h is g after the turns of all these members
pub record After (p : ℕ) (g : Graph) (ms : List Handle) (h : Graph) : Type 0 where
  pub good : good_graph h ≡ true
  pub once : ids_once h.nodes ≡ true
  pub letters_same : h.letters ≡ g.letters
  pub fresh : fresh_id h ≡ fresh_id g + count (is_long p g) ms
  pub other_stored : (j : ℕ) → stored j g.nodes ≡ true → stored j h.nodes ≡ true
  pub other_live : (j : ℕ) → Off j ms → live_node j g.nodes ≡ true → live_node j h.nodes ≡ true
  pub other_same : (j : ℕ) → Off j ms → stored j g.nodes ≡ true → node_named j h.nodes ≡ node_named j g.nodes
  pub other_linked : (e : Edge) → Off (id_of e.from) ms → Off (id_of e.to) ms → linked e g.links ≡ true → linked e h.links ≡ true
  pub rest : (i : ℕ) → i < length ms → (d : Handle) → is_long p g (get_or ms i d) ≡ true → Rest p g (get_or ms i d) h (suffix_at p g ms i d)

pub after_none : (p : ℕ) (g : Graph) → Collapses p g [] → After p g [] g
after_none p g c =
    record {
      good = c.good;
      once = c.once;
      letters_same = refl;
      fresh = omega arith;
      other_stored = λ j t. t;
      other_live = λ j n t. t;
      other_same = λ j n t. refl;
      other_linked = λ e n o t. t;
      rest = λ i l. absurd (not-suc-le-zero l);
    }

-- x is linked to the suffix of each long one, in k
abbrev pub Leads : ℕ → Handle → Graph → List Handle → Graph → Type 0
Leads p x g ms k = (i : ℕ) → i < length ms → (d : Handle) → is_long p g (get_or ms i d) ≡ true → linked (edge x (suffix_at p g ms i d)) k.links ≡ true

-- what stands alone stays, where no member is on it
pub after_holds : {p : ℕ} {g : Graph} {ms : List Handle} {h : Graph} → After p g ms h → (u : Handle) → Off (id_of u) ms → {s : List ℕ} {n : ℕ} → Holds g u s n → Holds h u s n
after_holds {p} {g} {ms} {h} a u off b =
    still_holds g h u a.letters_same
    (a.other_same (id_of u) off (live-stored (id_of u) g.nodes b.live))
    (a.other_live (id_of u) off b.live) b

-- one turn, then those of the others
module _ (p : ℕ) (g : Graph) (m : Handle) (ms : List Handle) (h k : Graph) (c : Collapses p g (m ∷ ms)) (t : Turn p g m (is_long p g m) (suffix_of g m) h) (a : After p h ms k) where
  -- no later member is on the suffix of this one
  own_off : is_long p g m ≡ true → Off (id_of (suffix_of g m)) ms
  own_off e u q n = t.rest_new e (id_of u) (other-id m ms c.apart q) (member_stored p g m ms c (mathlib.Core.List.Memᴰ.tail q)) (sym n)

  zero_suffix : (d : Handle) → suffix_of g m ≡ suffix_at p g (m ∷ ms) 0 d
  zero_suffix d = let z : fresh_id g ≡ fresh_id g + 0 = omega arith in ap (λ (n : ℕ). suffix_by n m) z

  next_suffix : (i : ℕ) (d : Handle) → suffix_at p h ms i d ≡ suffix_at p g (m ∷ ms) (suc i) d
  next_suffix i d =
      ap (λ (n : ℕ). suffix_by n (get_or ms i d))
      (fresh_on p g m ms c h t (take i ms)
      (count_same _ _ (take i ms) (λ v q. same-long p g m ms c h t v (rw (take-append-drop i ms) at (mathlib.Core.List.Memᴰ.append_left (drop i ms) q)))))

  -- a later member as it was
  module _ (i : ℕ) (l : i < length ms) (d : Handle) where
    abbrev u : Handle
    u = get_or ms i d

    at_i : Memᴰ u ms
    at_i = mem_at ms i d l

    next-long : is_long p g u ≡ true → is_long p h u ≡ true
    next-long e = same-long p g m ms c h t u at_i ∙ e

    next-rest : {y : Handle} → Rest p h u k y → Rest p g u k y
    next-rest b =
        let s = t.other_same (id_of u) (other-id m ms c.apart at_i) (member_stored p g m ms c (mathlib.Core.List.Memᴰ.tail at_i)) in
        record {
          live = b.live;
          len = b.len ∙ ap (λ (r : Node). r.len - p) s;
          reads = b.reads ∙ ap₂ (λ (x : List ℕ) (r : Node). drop p (oriented (dir_of u) (span x r))) t.letters_same s;
        }

  rests : (i : ℕ) → i < length (m ∷ ms) → (d : Handle) → is_long p g (get_or (m ∷ ms) i d) ≡ true → Rest p g (get_or (m ∷ ms) i d) k (suffix_at p g (m ∷ ms) i d)
  rests zero l d e = subst (Rest p g m k) (zero_suffix d) (after_holds a (suffix_of g m) (own_off e) (t.rest e))
  rests (suc i) l d e =
      let l' : i < length ms = le_of_suc-le-suc l in
      subst (Rest p g (get_or ms i d) k) (next_suffix i d) (next-rest i l' d (a.rest i l' d (next-long i l' d e)))

  pub after_one_lem : After p g (m ∷ ms) k
  after_one_lem =
      let first : Memᴰ m (m ∷ ms) = mathlib.Core.List.Memᴰ.head refl in
      record {
        good = a.good;
        once = a.once;
        letters_same = a.letters_same ∙ t.letters_same;
        fresh = a.fresh ∙ fresh_on p g m ms c h t ms (count_same _ _ ms (same-long p g m ms c h t));
        other_stored = λ j q. a.other_stored j (t.other_stored j q);
        other_live = λ j n q. a.other_live j (λ v r. n v (mathlib.Core.List.Memᴰ.tail r)) (t.other_live j (n m first) q);
        other_same = λ j n q.
            a.other_same j (λ v r. n v (mathlib.Core.List.Memᴰ.tail r)) (t.other_stored j q)
            ∙ t.other_same j (n m first) q;
        other_linked = λ e n o q.
            a.other_linked e (λ v r. n v (mathlib.Core.List.Memᴰ.tail r)) (λ v r. o v (mathlib.Core.List.Memᴰ.tail r))
            (t.other_linked e (n m first) (o m first) q);
        rest = rests;
      }

  pub leads_one : (x : Handle) → Off (id_of x) ms → (is_long p g m ≡ true → linked (edge x (suffix_of g m)) h.links ≡ true) → Leads p x h ms k → Leads p x g (m ∷ ms) k
  leads_one x off own others zero l d e =
      ap (λ (y : Handle). linked (edge x y) k.links) (sym (zero_suffix d))
      ∙ a.other_linked (edge x (suffix_of g m)) off (own_off e) (own e)
  leads_one x off own others (suc i) l d e =
      let l' : i < length ms = le_of_suc-le-suc l in
      ap (λ (y : Handle). linked (edge x y) k.links) (sym (next_suffix i d)) ∙ others i l' d (next-long i l' d e)
