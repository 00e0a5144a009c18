-- A turn of the driver in the arrays that hold graph and events.
use Prim.Native.Nat.{ℕ, ◌≤◌}
use mathlib.Core.Path.{◌≡◌, refl, sym, ap, ◌∙◌}
use mathlib.Core.Bool.{Bool, true, false, cond, not}
use mathlib.Core.List.{List}
use native.Mathlib.Omega.{arith}
use borrow.Author.Tests.{eq-eqb, ne_eqb, eqb-false}
use lib.Dec.{eqb}
use lib.ListN.{length, take, length-map, length-take}
use Rattle.kit.proofs.Laws.{length-decode}
use Rattle.handle.specs.declared.Handle.{Handle}
use Rattle.store.specs.declared.Counts.{Counts}
use Rattle.store.specs.Graph.{node_layout, link_layout}
use Rattle.formed.proofs.Says.{formed_room}
use Rattle.affix.specs.Prefix.{handles_of, group_prefix}
use Rattle.events.specs.declared.Used.{Used}
use Rattle.events.specs.Events.{rule_layout, step_layout}
use Rattle.events.proofs.Says.{table-room}
use Rattle.merging.specs.Merging.{shared_node}
use Rattle.collapsing.specs.declared.Collapsed.{Collapsed}
use Rattle.collapsing.specs.Making.{State, state_after, collapse_number}
use Rattle.collapsing.specs.Outcome as collapse
use Rattle.collapsing.specs.Outcome.{Lent, room_of, state_in, group_outcome}
use Rattle.longer.proofs.Front.{front_same}
use Rattle.collapsing.proofs.Given.{Sound}
use Rattle.collapsing.proofs.Lists.{table_formed_lem}
use Rattle.choosing.specs.Scan.{next_group}
use Rattle.choosing.specs.Search.{Front}
use Rattle.driver.specs.Drive.{Run, ran, or_else, drive_for}
use Rattle.driver.specs.Turn.{group_run}
use Rattle.driver.specs.Outcome.{outcome, refused, holding_run}
use Rattle.choosing.proofs.Trying.{numbers_back}

module _ (l : Lent) (letters : List ℕ) (c : Counts) (u : Used) (sound : Sound l letters c u) where
  abbrev s : State
  s = state_in l letters c u

  -- what stands in the arrays, stored there again, leaves them as they were
  pub same-run : (number made : ℕ) → holding_run (ran number made s) c l ≡ outcome (record { number = number; made = made; counts = c; used = u }) l
  same-run number made =
      let graph-room = formed_room l.nodes letters l.links c sound.graph in
      let list-room = table-room l.rules l.steps u (table_formed_lem l.rules l.steps u sound.events) in
      rw (
        front_same node_layout c.nodes l.nodes graph-room.node_room,
        front_same link_layout c.links l.links graph-room.link_room,
        front_same rule_layout u.rules l.rules list-room.rule_room,
        front_same step_layout u.steps l.steps list-room.step_room,
        length-decode node_layout c.nodes l.nodes,
        length-decode link_layout c.links l.links,
        length-decode rule_layout u.rules l.rules,
        length-decode step_layout u.steps l.steps,
      )

  -- a collapse of these members at full prefix length, as it was answered
  module _ (ms : List Handle) (k : Collapsed) (m : Lent) (e : collapse.outcome k m ≡ group_outcome l letters c u ms (length (group_prefix s.graph ms))) where
    abbrev p : ℕ
    p = length (group_prefix s.graph ms)

    abbrev n : ℕ
    n = collapse_number (room_of l) p s ms

    abbrev answered : Bool → collapse.Outcome
    answered b = cond (not b) (collapse.refused n c u l) (collapse.made (shared_node p s.graph ms) (state_after p s ms) c l)

    abbrev run : Bool → Run
    run b = or_else b (ran 0 1 (state_after p s ms)) (λ a. ran n 0 s)

    pub whole_refused : (k.number ≡ 0 → ⊥) → refused k.number c u m ≡ holding_run (group_run (room_of l) s ms) c l
    whole_refused h = by (eqb n 0) e
      where
        by : (b : Bool) → collapse.outcome k m ≡ answered b → refused k.number c u m ≡ holding_run (run b) c l
        by true q = absurd (h (ap (λ (o : collapse.Outcome). o.answer.number) q))
        by false q = ap (λ (o : collapse.Outcome). refused o.answer.number c u o.arrays) q ∙ sym (same-run n 0)

    pub whole_made : k.number ≡ 0 → outcome (record { number = 0; made = 1; counts = k.counts; used = k.used }) m ≡ holding_run (group_run (room_of l) s ms) c l
    whole_made h = by (eqb n 0) refl e
      where
        by : (b : Bool) → eqb n 0 ≡ b → collapse.outcome k m ≡ answered b → outcome (record { number = 0; made = 1; counts = k.counts; used = k.used }) m ≡ holding_run (run b) c l
        by true t q = ap (λ (o : collapse.Outcome). outcome (record { number = 0; made = 1; counts = o.answer.counts; used = o.answer.used }) o.arrays) q
        by false t q = absurd (eqb-false n 0 t (sym (ap (λ (o : collapse.Outcome). o.answer.number) q) ∙ h))

  -- the next group is looked for, then collapsed
  module _ (protected members : List ℕ) (n : ℕ) (f : Front (next_group s.graph protected) members n) where
    abbrev one : Run
    one = drive_for 1 (room_of l) protected 0 s

    pub found-size : n ≡ length (take n members)
    found-size = sym (ap length f.here ∙ length-map (next_group s.graph protected) (λ h. h.packed) ∙ sym f.size)

    pub found-fits : n ≤ length members
    found-fits = omega (arith, found-size, length-take n members)

    pub none_found : n ≡ 0 → refused 0 c u l ≡ holding_run one c l
    none_found z = rw (eq-eqb (length (next_group s.graph protected)) 0 (sym f.size ∙ z)) (sym (same-run 0 0))

    pub found : (n ≡ 0 → ⊥) → holding_run (group_run (room_of l) s (handles_of (take n members))) c l ≡ holding_run one c l
    found h =
        let e : handles_of (take n members) ≡ next_group s.graph protected = ap handles_of f.here ∙ numbers_back (next_group s.graph protected) in
        rw (e, ne_eqb (length (next_group s.graph protected)) 0 (λ z. h (f.size ∙ z)))
