-- What is known before the links are made: what members that passed 8 to 11 have, and each number before 7 of the links.
use Prim.Native.Nat.{ℕ, suc, ◌+◌, ◌-◌, ◌*◌, ◌≤◌}
use mathlib.Core.Path.{◌≡◌, refl, ap, ◌∙◌}
use mathlib.Core.Bool.{Bool, true, false, cond, not, ◌&&◌}
use mathlib.Core.List.Memᴰ
use mathlib.Core.List.{List, [], ◌∷◌, map, Memᴰ}
use native.Mathlib.Omega.{arith}
use borrow.Author.Tests.{eqb-false, ltb-false, leb-true, le-leb, not-false}
use lib.Dec.{eqb, ltb, leb}
use lib.ListN.{length, drop, length-take}
use Rattle.kit.specs.declared.Refusal.{Refusal}
use Rattle.kit.specs.Loops.{all, sum, count}
use Rattle.kit.specs.Refusal.{number}
use Rattle.kit.proofs.Bools.{and_true_l}
use Rattle.kit.proofs.Meaning.{all_of}
use Rattle.kit.proofs.Refusals.{number_not_0}
use Rattle.letters.proofs.Sequences.{length-oriented}
use Rattle.handle.specs.declared.Handle.{Handle}
use Rattle.handle.specs.Handle.{max_id, id_of, dir_of}
use Rattle.store.specs.Graph.{Graph}
use Rattle.store.specs.declared.Node.{Node}
use Rattle.store.specs.Views.{node_named, len_of, largest, span, spell}
use Rattle.formed.specs.WellFormed.{good_graph, ids_once}
use Rattle.affix.specs.Prefix.{members_live, members_once, group_prefix}
use Rattle.affix.proofs.Prefix.{agrees_before}
use Rattle.events.specs.Events.{Rules, Event, append_all}
use Rattle.merging.specs.Merging.{is_long, collapsed}
use Rattle.merging.specs.Plan.{long_by}
use Rattle.merged.proofs.NodesAlone.{nodes_are}
use Rattle.merged.proofs.Members.{Collapses}
use Rattle.merged.proofs.Theorems.{count-after}
use Rattle.collapsing.specs.Making.{Room, state, same_lefts, needs_high, members_number, list_number, group_number, state_after, fits}
use Rattle.longer.specs.Ahead.{events_by}
use Rattle.longer.specs.Longer.{Passed}
use Rattle.collapsing.specs.Ready.{lists_fit, ready_number}
use Rattle.longer.proofs.Appending.{rule-count, step_count}
use Rattle.longer.proofs.ByMember.{event-count, event-steps}
use Rattle.collapsing.proofs.Foreseen.{events_are}

-- a test whose number is not given was not met
pub untold : (b : Bool) (n k : ℕ) → cond b (suc n) k ≡ 0 → (b ≡ false) × (k ≡ 0)
untold true n k e = absurd (omega arith)
untold false n k e = (refl, e)

-- the tests 8 to 11, one by one
pub record Tested (p : ℕ) (g : Graph) (ms : List Handle) : Type 0 where
  pub two : 2 ≤ length ms
  pub live : members_live g.nodes ms ≡ true
  pub once : members_once ms ≡ true
  pub low : 1 ≤ p
  pub prefix : p ≤ length (group_prefix g ms)
  pub lefts : same_lefts g ms ≡ true
  pub enough : largest g.nodes + count (is_long p g) ms ≤ max_id

pub tested : (p : ℕ) (g : Graph) (ms : List Handle) → members_number p g ms ≡ 0 → Tested p g ms
tested p g ms e =
    let a = untold (ltb (length ms) 2) 7 _ e in
    let b = untold (not (members_live g.nodes ms)) 7 _ a.1 in
    let c = untold (not (members_once ms)) 7 _ b.1 in
    let d = untold (eqb p 0) 8 _ c.1 in
    let f = untold (ltb (length (group_prefix g ms)) p) 8 _ d.1 in
    let h = untold (not (same_lefts g ms)) 9 _ f.1 in
    let k = untold (needs_high p g ms) 10 _ h.1 in
    let some : p ≡ 0 → ⊥ = eqb-false p 0 d.0 in
    record {
      two = omega (arith, ltb-false (length ms) 2 a.0);
      live = not-false _ b.0;
      once = not-false _ c.0;
      low = omega (arith, some);
      prefix = omega (arith, ltb-false (length (group_prefix g ms)) p f.0);
      lefts = not-false _ h.0;
      enough = omega (arith, ltb-false max_id (largest g.nodes + count (is_long p g) ms) k.0);
    }

-- a member has at least the letters of the shared prefix
module _ (p : ℕ) (g : Graph) (low : 1 ≤ p) where
  prefix_in : (ms : List Handle) → p ≤ length (group_prefix g ms) → {m : Handle} → Memᴰ m ms → p ≤ length (spell g m)
  prefix_in [] h i = absurd (omega arith)
  prefix_in (u ∷ ms) h {m} i =
      let at = ((agrees_before (spell g u) (map (spell g) ms) (p - 1) (omega arith)).1 (spell g m) (Memᴰ.map (spell g) i)).0 in
      omega arith

  spelled-most : (m : Handle) → length (spell g m) ≤ len_of g (id_of m)
  spelled-most m =
      let r = node_named (id_of m) g.nodes in
      omega (arith, length-oriented (dir_of m) (span g.letters r), length-take r.len (drop r.start g.letters))

  reaches : (ms : List Handle) → p ≤ length (group_prefix g ms) → all (λ m. leb p (len_of g (id_of m))) ms ≡ true
  reaches ms h = all_of _ ms (λ m i. le-leb p (len_of g (id_of m)) (omega (arith, prefix_in ms h i, spelled-most m)))

module _ (p : ℕ) (g : Graph) (ms : List Handle) where
  pub passed_members : good_graph g ≡ true → ids_once g.nodes ≡ true → members_number p g ms ≡ 0 → Collapses p g ms
  passed_members good once e =
      let t = tested p g ms e in
      record {
        good = good;
        once = once;
        live = t.live;
        apart = t.once;
        low = t.low;
        reach = reaches p g t.low ms t.prefix;
        fits = t.enough;
      }

  pub passed_events : members_number p g ms ≡ 0 → Passed p g.nodes ms
  passed_events e =
      let t = tested p g ms e in
      record { some = omega (arith, t.two); live = t.live; once = t.once; low = t.low; enough = t.enough }

-- a step for each event, and one more for a long member's
all-steps : (p : ℕ) (nodes : List Node) (ms : List Handle) → sum (λ a. length a.walk) (events_by p nodes ms) ≡ count (long_by p nodes) ms + length (events_by p nodes ms)
all-steps p nodes [] = refl
all-steps p nodes (m ∷ ms) = omega (arith, event-steps p nodes m ms, event-count p nodes m ms)

-- what fits is inside the limit
pub fits_few : (stride limit n room : ℕ) → fits stride limit n room ≡ true → n ≤ limit
fits_few stride limit n room t = leb-true n limit (and_true_l (leb n limit) (leb (stride * n) room) t)

-- the numbers in their order, once the tests before have passed; `es` are the events
module _ (room : Room) (p : ℕ) (g : Graph) (t : Rules) (ms : List Handle) where
  -- as the code counts: `long` nodes, `more` rules and `long + more` steps are new
  abbrev takes : ℕ → ℕ → Bool
  takes long more =
      fits 4 65536 (length g.nodes + long) room.nodes
      && (fits 4 65536 (length t.rules + more) room.rules && fits 2 262144 (length t.steps + (long + more)) room.steps)

  module _ (z : members_number p g ms ≡ 0) (c : Collapses p g ms) where
    abbrev es : List Event
    es = events_by p g.nodes ms

    group_is : group_number p (state g t) ms ≡ list_number (append_all t es)
    group_is = rw (z, events_are p g ms c)

    pub ready_list : (why : Refusal) → list_number (append_all t es) ≡ number why → ready_number room p (state g t) ms ≡ number why
    ready_list why e = rw (group_is, e, number_not_0 why)

    pub nodes-after : length (collapsed p g ms).nodes ≡ length g.nodes + count (long_by p g.nodes) ms
    nodes-after = ap length (nodes_are p g ms) ∙ count-after p g ms c

    lists_are : (long more : ℕ) → long ≡ count (long_by p g.nodes) ms → more ≡ length es → lists_fit room (state_after p (state g t) ms) ≡ takes long more
    lists_are long more e f =
        rw (e, f, nodes-after, events_are p g ms c, rule-count t es, step_count t es, all-steps p g.nodes ms)

    pub ready_room : (long more : ℕ) {b : Bool} → list_number (append_all t es) ≡ 0 → long ≡ count (long_by p g.nodes) ms → more ≡ length es → b ≡ takes long more → ready_number room p (state g t) ms ≡ cond (not b) 7 0
    ready_room long more k e f q = rw (group_is, k, lists_are long more e f, q)
