-- The driver's loop: what is left to do gives the whole outcome, and each turn lowers the live letters.
use Prim.Native.Nat.{ℕ, zero, suc, ◌+◌, ◌-◌, ◌≤◌, ◌<◌}
use mathlib.Core.Path.{◌≡◌, refl, sym, ap, subst, ◌∙◌}
use mathlib.Core.Bool.{Bool, true, false}
use mathlib.Core.List.{List}
use native.Mathlib.Nat.{sub-zero}
use native.Mathlib.Omega.{arith}
use borrow.Author.Tests.{eqb-true}
use lib.Dec.{eqb}
use lib.ListN.{length}
use Rattle.kit.proofs.Bools.{and_true_r}
use Rattle.handle.specs.declared.Handle.{Handle}
use Rattle.store.specs.declared.Counts.{Counts}
use Rattle.store.specs.Graph.{nodes_of}
use Rattle.store.specs.Views.{live_letters}
use Rattle.formed.specs.WellFormed.{good_graph, room_for}
use Rattle.events.specs.declared.Used.{Used}
use Rattle.collapsing.specs.Making.{State, state_after, collapse_number}
use Rattle.collapsing.specs.Outcome.{Lent, room_of, state_in, holding, counts_of, used_of}
use Rattle.collapsing.proofs.After.{collapses, back_after, room_after, sound-after}
use Rattle.collapsing.proofs.Given.{Sound}
use Rattle.driver.specs.declared.Driven.{Driven}
use Rattle.choosing.specs.Scan.{next_group}
use Rattle.driver.specs.Drive.{Run, ran, or_else, prefix_len, drive_for}
use Rattle.driver.specs.Outcome.{Outcome, outcome, holding_run, drive_outcome}
use Rattle.driver.proofs.Falls.{nonempty, some_letter, turn_falls}
use Rattle.driver.proofs.Grown.{each_end, drive-grown, holding-last}

abbrev pub letters_in : Lent → Counts → ℕ
letters_in l c = live_letters (nodes_of c.nodes l.nodes)

-- a turn that was taken: its answer is r, and it left m
module _ (l : Lent) (letters : List ℕ) (c : Counts) (u : Used) (sound : Sound l letters c u) (protected : List ℕ) (r : Driven) (m : Lent) (e : outcome r m ≡ holding_run (drive_for 1 (room_of l) protected 0 (state_in l letters c u)) c l) where
  abbrev s : State
  s = state_in l letters c u

  abbrev ms : List Handle
  ms = next_group s.graph protected

  abbrev p : ℕ
  p = prefix_len protected s

  abbrev n : ℕ
  n = collapse_number (room_of l) p s ms

  abbrev after : State
  after = state_after p s ms

  good : good_graph s.graph ≡ true
  good = and_true_r (room_for l.nodes letters l.links c) (good_graph s.graph) sound.graph

  module _ (z : r.made ≡ 0) where
    kept : (number made : ℕ) → outcome r m ≡ holding_run (ran number 0 s) c l → outcome (record { number = r.number; made = made; counts = r.counts; used = r.used }) m ≡ holding_run (ran number made s) c l
    kept number made q = ap (λ (o : Outcome). outcome (record { number = o.answer.number; made = made; counts = o.answer.counts; used = o.answer.used }) o.arrays) q

    -- no collapse was made, so the driver ends here
    pub ends : (k made : ℕ) → letters_in l c ≤ k → outcome (record { number = r.number; made = made; counts = r.counts; used = r.used }) m ≡ holding_run (drive_for k (room_of l) protected made s) c l
    ends zero made h = by (eqb (length ms) 0) refl e
      where
        by : (b : Bool) → eqb (length ms) 0 ≡ b → outcome r m ≡ holding_run (or_else b (ran 0 0 s) (λ a. or_else (eqb n 0) (ran 0 1 after) (λ d. ran n 0 s))) c l → outcome (record { number = r.number; made = made; counts = r.counts; used = r.used }) m ≡ holding_run (ran 0 made s) c l
        by true t q = kept 0 made q
        by false t q = absurd (omega (arith, some_letter s.graph protected good (nonempty (length ms) t)))
    ends (suc k) made h = by (eqb (length ms) 0) (eqb n 0) (drive_for k (room_of l) protected (made + 1) after) e
      where
        by : (b d : Bool) (x : Run) → outcome r m ≡ holding_run (or_else b (ran 0 0 s) (λ a. or_else d (ran 0 1 after) (λ f. ran n 0 s))) c l → outcome (record { number = r.number; made = made; counts = r.counts; used = r.used }) m ≡ holding_run (or_else b (ran 0 made s) (λ a. or_else d x (λ f. ran n made s))) c l
        by true d x q = kept 0 made q
        by false true x q = absurd (omega (arith, z, ap (λ (o : Outcome). o.answer.made) q))
        by false false x q = kept n made q

  module _ (one : r.made ≡ 0 → ⊥) where
    -- a collapse was made
    pub record Made : Type 0 where
      pub found : eqb (length ms) 0 ≡ false
      pub none : eqb n 0 ≡ true
      pub holds : outcome r m ≡ holding_run (ran 0 1 after) c l

    pub was_made : Made
    was_made =
        each_end (λ (x : Run). outcome r m ≡ holding_run x c l → Made) (eqb (length ms) 0) (eqb n 0) (ran 0 0 s) (ran 0 1 after) (ran n 0 s)
        (λ b q. absurd (one (ap (λ (o : Outcome). o.answer.made) q)))
        (λ b d q. record { found = b; none = d; holds = q })
        (λ b d q. absurd (one (ap (λ (o : Outcome). o.answer.made) q)))
        e

    zero_number : n ≡ 0
    zero_number = eqb-true n 0 was_made.none

    abbrev m' : Lent
    m' = holding after l

    abbrev c' : Counts
    c' = counts_of after c

    abbrev u' : Used
    u' = used_of after

    same-letters : letters_in m' c' ≡ live_letters after.graph.nodes
    same-letters = ap (λ (x : State). live_letters x.graph.nodes) (back_after l letters c u p ms sound zero_number)

    after_falls : letters_in m' c' < letters_in l c
    after_falls = omega (arith, same-letters, turn_falls protected s (nonempty (length ms) was_made.found) (collapses l letters c u p ms sound zero_number))

    -- so a turn lowers the live letters
    pub falls : letters_in m r.counts < letters_in l c
    falls = subst (λ (o : Outcome). letters_in o.arrays o.answer.counts < letters_in l c) (sym was_made.holds) after_falls

    -- and the driver goes on from what it left
    next-left : (k made : ℕ) → holding_run (drive_for k (room_of m') protected (made + 1) (state_in m' letters c' u')) c' m' ≡ holding_run (drive_for (suc k) (room_of l) protected made s) c l
    next-left k made =
        let run = drive_for k (room_of l) protected (made + 1) after in
        rw (back_after l letters c u p ms sound zero_number, room_after l letters c u p ms sound zero_number, was_made.found, was_made.none)
        (ap (outcome (record { number = run.number; made = run.made; counts = counts_of run.state c; used = used_of run.state }))
        (holding-last after run.state l (drive-grown k (room_of l) protected (made + 1) after)))

-- the loop, from l₀ with c₀ and u₀ on: graph and events are sound, and what is left to do gives the whole outcome
pub record Going (l₀ : Lent) (letters : List ℕ) (c₀ : Counts) (u₀ : Used) (protected : List ℕ) (l : Lent) (c : Counts) (u : Used) (made : ℕ) : Type 0 where
  pub sound : Sound l letters c u
  pub room : room_of l ≡ room_of l₀
  pub enough : made + letters_in l c ≤ letters_in l₀ c₀
  pub left : holding_run (drive_for (letters_in l₀ c₀ - made) (room_of l) protected made (state_in l letters c u)) c l ≡ drive_outcome l₀ letters c₀ u₀ protected

module _ (l₀ : Lent) (letters : List ℕ) (c₀ : Counts) (u₀ : Used) (protected : List ℕ) where
  pub going_start : Sound l₀ letters c₀ u₀ → Going l₀ letters c₀ u₀ protected l₀ c₀ u₀ 0
  going_start sound =
      record {
        sound = sound;
        room = refl;
        enough = omega arith;
        left = rw (sub-zero (letters_in l₀ c₀));
      }

  module _ (l : Lent) (c : Counts) (u : Used) (made : ℕ) (g : Going l₀ letters c₀ u₀ protected l c u made) (r : Driven) (m : Lent) (e : outcome r m ≡ holding_run (drive_for 1 (room_of l) protected 0 (state_in l letters c u)) c l) where
    pub going_end : r.made ≡ 0 → outcome (record { number = r.number; made = made; counts = r.counts; used = r.used }) m ≡ drive_outcome l₀ letters c₀ u₀ protected
    going_end z = ends l letters c u g.sound protected r m e z (letters_in l₀ c₀ - made) made (omega (arith, g.enough)) ∙ g.left

    module _ (one : r.made ≡ 0 → ⊥) where
      pub going_less : letters_in m r.counts < letters_in l c
      going_less = falls l letters c u g.sound protected r m e one

      pub going_again : Going l₀ letters c₀ u₀ protected m r.counts r.used (made + 1)
      going_again =
          let z = zero_number l letters c u g.sound protected r m e one in
          let p = prefix_len protected (state_in l letters c u) in
          let ms = next_group (state_in l letters c u).graph protected in
          let fall = after_falls l letters c u g.sound protected r m e one in
          let more : suc (letters_in l₀ c₀ - (made + 1)) ≡ letters_in l₀ c₀ - made = omega (arith, g.enough) in
          subst (λ (o : Outcome). Going l₀ letters c₀ u₀ protected o.arrays o.answer.counts o.answer.used (made + 1))
          (sym (was_made l letters c u g.sound protected r m e one).holds)
          (record {
            sound = sound-after l letters c u p ms g.sound z;
            room = room_after l letters c u p ms g.sound z ∙ g.room;
            enough = omega (arith, g.enough);
            left = next-left l letters c u g.sound protected r m e one (letters_in l₀ c₀ - (made + 1)) made ∙ ap (λ (k : ℕ). holding_run (drive_for k (room_of l) protected made (state_in l letters c u)) c l) more ∙ g.left;
          })
