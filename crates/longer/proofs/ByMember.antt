-- The events of a collapse, member by member.
use Prim.Native.Nat.{ℕ, ◌+◌, ◌-◌, ◌≤◌}
use mathlib.Core.Path.{◌≡◌, refl, ap, ap₂, subst, ◌∙◌}
use mathlib.Core.Bool.{Bool, true, false, cond, not, ◌&&◌, ◌||◌}
use mathlib.Core.List.Memᴰ
use mathlib.Core.List.{List, [], ◌∷◌, Memᴰ}
use mathlib.Core.Logic.{⊎_elim}
use native.Mathlib.Omega.{arith}
use lib.Dec.{eqb, ltb}
use lib.ListN.{length, drop, get_or, length-map}
use Rattle.kit.specs.Loops.{all, any, distinct, sum, count}
use Rattle.kit.proofs.Meaning.{distinct-rest}
use Rattle.handle.specs.declared.Handle.{Handle}
use Rattle.handle.specs.Handle.{id_of}
use Rattle.store.specs.Graph.{handle}
use Rattle.store.specs.declared.Node.{Node}
use Rattle.store.specs.Views.{node_named, largest}
use Rattle.affix.specs.Prefix.{members_once, handles_of}
use Rattle.merging.specs.Plan.{long_by, fresh_after, prefix_by}
use Rattle.longer.specs.Ahead.{event_by, later_events_by, events_by}
use Rattle.longer.proofs.OneEvent.{walk_length}
use Rattle.events.specs.Events.{Event}

pub one_more : (b : Bool) (n : ℕ) → cond b (n + 1) n ≡ n + cond b 1 0
one_more true n = omega arith
one_more false n = omega arith

pub one_at_most : (b : Bool) (n : ℕ) → cond b (n + 1) n ≤ n + 1
one_at_most true n = omega arith
one_at_most false n = omega arith

-- a first member of p letters has no event: the members from this place on have one
abbrev pub start_at : ℕ → List Node → Handle → ℕ
start_at p nodes m = cond (long_by p nodes m) 0 1

module _ (p : ℕ) (nodes : List Node) (m : Handle) (ms : List Handle) where
  pub events_run : events_by p nodes (m ∷ ms) ≡ later_events_by p nodes (prefix_by p nodes (largest nodes + 1) m) (largest nodes + 1) (drop (start_at p nodes m) (m ∷ ms))
  events_run = by (long_by p nodes m) refl
    where
      by : (b : Bool) → long_by p nodes m ≡ b → events_by p nodes (m ∷ ms) ≡ later_events_by p nodes (prefix_by p nodes (largest nodes + 1) m) (largest nodes + 1) (drop (start_at p nodes m) (m ∷ ms))
      by true e = rw e (rw e)
      by false e = rw e

-- how many events and steps a run makes
module _ (p : ℕ) (nodes : List Node) (x : Handle) where
  pub run_length : (fresh : ℕ) (ms : List Handle) → length (later_events_by p nodes x fresh ms) ≡ length ms
  run_length fresh [] = refl
  run_length fresh (m ∷ ms) = omega (arith, run_length (fresh_after p nodes fresh m) ms)

  pub run-steps : (fresh : ℕ) (ms : List Handle) → sum (λ e. length e.walk) (later_events_by p nodes x fresh ms) ≡ length ms + count (long_by p nodes) ms
  run-steps fresh [] = refl
  run-steps fresh (m ∷ ms) =
      omega (arith, walk_length p (node_named (id_of m) nodes).len x fresh m, run-steps (fresh_after p nodes fresh m) ms)

-- an event is some member's, with a fresh id from `low` on; those that are taken then stay up to `high`
pub record MadeBy (p : ℕ) (nodes : List Node) (x : Handle) (ms : List Handle) (low high : ℕ) (e : Event) : Type 0 where
  pub member : Handle
  pub fresh : ℕ
  pub within : Memᴰ member ms
  pub above : low ≤ fresh
  pub below : fresh_after p nodes fresh member ≤ high
  pub made : e ≡ event_by p nodes x fresh member

module _ (p : ℕ) (nodes : List Node) (x : Handle) where
  pub run_of : (fresh : ℕ) (ms : List Handle) {e : Event} → Memᴰ e (later_events_by p nodes x fresh ms) → MadeBy p nodes x ms fresh (fresh + count (long_by p nodes) ms) e
  run_of fresh [] i = absurd (Memᴰ.not-nil i)
  run_of fresh (m ∷ ms) {e} i =
      ⊎_elim
      (λ q. record { member = m; fresh = fresh; within = Memᴰ.head refl; above = omega arith; below = omega (arith, one_more (long_by p nodes m) fresh); made = q })
      (λ q. let r = run_of (fresh_after p nodes fresh m) ms q in
      record {
        member = r.member;
        fresh = r.fresh;
        within = Memᴰ.tail r.within;
        above = omega (arith, one_more (long_by p nodes m) fresh, r.above);
        below = omega (arith, one_more (long_by p nodes m) fresh, r.below);
        made = r.made;
      })
      (Memᴰ.cases_cons i)

module _ (p : ℕ) (nodes : List Node) (m : Handle) (ms : List Handle) where
  pub from_start : (b : Bool) → long_by p nodes m ≡ b → (length (drop (cond b 0 1) (m ∷ ms)) ≡ length ms + cond b 1 0) × (count (long_by p nodes) (drop (cond b 0 1) (m ∷ ms)) ≡ count (long_by p nodes) (m ∷ ms))
  from_start true e = (omega arith, refl)
  from_start false e = (omega arith, rw e (omega arith))

  pub event-count : length (events_by p nodes (m ∷ ms)) ≡ length ms + cond (long_by p nodes m) 1 0
  event-count =
      ap length (events_run p nodes m ms)
      ∙ run_length p nodes (prefix_by p nodes (largest nodes + 1) m) (largest nodes + 1) (drop (start_at p nodes m) (m ∷ ms))
      ∙ (from_start (long_by p nodes m) refl).0

  pub event-steps : sum (λ e. length e.walk) (events_by p nodes (m ∷ ms)) ≡ count (long_by p nodes) (m ∷ ms) + (length ms + cond (long_by p nodes m) 1 0)
  event-steps =
      ap (sum (λ (e : Event). length e.walk)) (events_run p nodes m ms)
      ∙ run-steps p nodes (prefix_by p nodes (largest nodes + 1) m) (largest nodes + 1) (drop (start_at p nodes m) (m ∷ ms))
      ∙ omega (arith, from_start (long_by p nodes m) refl)

module _ (p : ℕ) (nodes : List Node) (m : Handle) (ms : List Handle) where
  from_drop : (b : Bool) {u : Handle} → Memᴰ u (drop (cond b 0 1) (m ∷ ms)) → Memᴰ u (m ∷ ms)
  from_drop true i = i
  from_drop false i = Memᴰ.tail i

  pub event_of_lem : {e : Event} → Memᴰ e (events_by p nodes (m ∷ ms)) → MadeBy p nodes (prefix_by p nodes (largest nodes + 1) m) (m ∷ ms) (largest nodes + 1) (largest nodes + 1 + count (long_by p nodes) (m ∷ ms)) e
  event_of_lem {e} i =
      let x = prefix_by p nodes (largest nodes + 1) m in
      let r = run_of p nodes x (largest nodes + 1) (drop (start_at p nodes m) (m ∷ ms)) (subst (λ (es : List Event). Memᴰ e es) (events_run p nodes m ms) i) in
      record {
        member = r.member;
        fresh = r.fresh;
        within = from_drop (long_by p nodes m) r.within;
        above = r.above;
        below = omega (arith, r.below, (from_start p nodes m ms (long_by p nodes m) refl).1);
        made = r.made;
      }

-- what is asked of the keys is asked of the members
abbrev pub length_in : List Node → Handle → ℕ
length_in nodes m = (node_named (id_of m) nodes).len

module _ (p : ℕ) (nodes : List Node) (x : Handle) (q : ℕ → ℕ → Bool) where
  pub run-all : (fresh : ℕ) (ms : List Handle) → all (λ e. q e.id e.len) (later_events_by p nodes x fresh ms) ≡ all (λ m. q (id_of m) (length_in nodes m)) ms
  run-all fresh [] = refl
  run-all fresh (m ∷ ms) = ap (λ (b : Bool). q (id_of m) (length_in nodes m) && b) (run-all (fresh_after p nodes fresh m) ms)

  pub run-any : (fresh : ℕ) (ms : List Handle) → any (λ e. q e.id e.len) (later_events_by p nodes x fresh ms) ≡ any (λ m. q (id_of m) (length_in nodes m)) ms
  run-any fresh [] = refl
  run-any fresh (m ∷ ms) = ap (λ (b : Bool). q (id_of m) (length_in nodes m) || b) (run-any (fresh_after p nodes fresh m) ms)

module _ (p : ℕ) (nodes : List Node) where
  -- members on distinct nodes have events of distinct ids
  run-once : (x : Handle) (fresh : ℕ) (ms : List Handle) → distinct (λ e f. eqb e.id f.id) (later_events_by p nodes x fresh ms) ≡ members_once ms
  run-once x fresh [] = refl
  run-once x fresh (m ∷ ms) =
      ap₂ (λ (a b : Bool). not a && b)
      (run-any p nodes x (λ (id len : ℕ). eqb (id_of m) id) (fresh_after p nodes fresh m) ms)
      (run-once x (fresh_after p nodes fresh m) ms)

  still_once : (b : Bool) (m : Handle) (ms : List Handle) → members_once (m ∷ ms) ≡ true → members_once (drop (cond b 0 1) (m ∷ ms)) ≡ true
  still_once true m ms t = t
  still_once false m ms t = distinct-rest (λ (u v : Handle). eqb (id_of u) (id_of v)) m ms t

  pub ids_once_lem : (ms : List Handle) → members_once ms ≡ true → distinct (λ e f. eqb e.id f.id) (events_by p nodes ms) ≡ true
  ids_once_lem [] t = refl
  ids_once_lem (m ∷ ms) t =
      ap (distinct (λ (e f : Event). eqb e.id f.id)) (events_run p nodes m ms)
      ∙ run-once (prefix_by p nodes (largest nodes + 1) m) (largest nodes + 1) (drop (start_at p nodes m) (m ∷ ms))
      ∙ still_once (long_by p nodes m) m ms t

pub one_place : (b : Bool) (n : ℕ) → 1 ≤ n → cond b 0 1 ≤ n
one_place true n h = omega arith
one_place false n h = h

-- how many events: each member's, but for a first one of p letters
pub event-many : (p : ℕ) (nodes : List Node) (ns : List ℕ) (len : ℕ) → 1 ≤ length ns → len ≡ length_in nodes (handle (get_or ns 0 0)) → length ns - cond (ltb p len) 0 1 ≡ length (events_by p nodes (handles_of ns))
event-many p nodes [] len h e = absurd (omega arith)
event-many p nodes (n ∷ ns) len h e = rw e (by (long_by p nodes (handle n)) (event-count p nodes (handle n) (handles_of ns)))
  where
    by : (b : Bool) {k : ℕ} → k ≡ length (handles_of ns) + cond b 1 0 → length (n ∷ ns) - cond b 0 1 ≡ k
    by true f = omega (arith, length-map ns handle)
    by false f = omega (arith, length-map ns handle)
