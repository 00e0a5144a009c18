-- What the driver does: 01 "What no idle program may pass", a driver that collapses nothing, or once and then only claims to;
-- 01 "Numbers that say no", the first refused collapse; 01 "Prefix, groups, collapse", how far the live letters fall.
use Prim.Native.Nat.{ℕ, zero, suc, ◌+◌, ◌≤◌, ◌<◌}
use mathlib.Core.Path.{◌≡◌, refl, sym, ap, subst, ◌∙◌}
use mathlib.Core.Bool.{Bool, true, false, cond, not}
use mathlib.Core.List.{List, [], ◌∷◌, Memᴰ}
use mathlib.Core.Logic.{◌⊎◌, inl, inr}
use native.Mathlib.Nat.{le_of_suc-le-suc, not-suc-le-zero}
use native.Mathlib.Omega.{arith}
use borrow.Author.Tests.{eq-eqb, eqb-true, eqb-false}
use lib.Dec.{eqb}
use lib.ListN.{length, take, get_or}
use Rattle.kit.proofs.Bools.{and_both, and_true_r}
use Rattle.handle.specs.declared.Handle.{Handle}
use Rattle.handle.specs.Handle.{id_of}
use Rattle.store.specs.declared.Counts.{Counts}
use Rattle.store.specs.Graph.{Graph, graph_of}
use Rattle.store.specs.Views.{live_node, live_letters}
use Rattle.formed.specs.WellFormed.{good_graph, ids_once, room_for}
use Rattle.affix.specs.Prefix.{group_prefix}
use Rattle.groups.specs.Groups.{groups_of}
use Rattle.events.specs.declared.Used.{Used}
use Rattle.merged.proofs.Theorems.{after}
use Rattle.collapsing.specs.Making.{State, Room, longer, state_after, needs_high, members_number, list_number, state_fits, collapse_number}
use Rattle.collapsing.specs.Outcome.{Lent, room_of, state_in}
use Rattle.collapsing.proofs.After.{passes, stored_back}
use Rattle.collapsing.proofs.Given as goal
use Rattle.sequences.specs.Sequences.{Collapse, beginning, after_one, after_all, allowed, lowers_all}
use Rattle.sequences.proofs.Letters.{Sound, Allowed, kept-all, collapses, sound-one, letters_fall_all}
use Rattle.sequences.proofs.InOrder.{longer-in_order}
use Rattle.choosing.specs.Scan.{next_group}
use Rattle.driver.specs.Drive.{Run, ran, prefix_len, drive_for, drive}
use Rattle.driver.specs.Outcome.{drive_outcome}
use Rattle.choosing.proofs.Trying.{Must, must_says}
use Rattle.driver.proofs.Theorems.{none_remains, next-must, never_8_9_10}
use Rattle.driver.proofs.Grown.{each_end}
use Rattle.driver.proofs.Falls.{nonempty, some_letter, turn_falls}

-- a collapse that the driver makes of s: of the first group that must be collapsed, a live node's, at full prefix length
pub record Taken (protected : List ℕ) (s : State) (k : Collapse) : Type 0 where
  pub first : k.members ≡ next_group s.graph protected
  pub must : Must s.graph protected k.members
  pub of : (v : Handle) × (live_node (id_of v) s.graph.nodes ≡ true) × Memᴰ k.members (groups_of s.graph v)
  pub full : k.p ≡ length (group_prefix s.graph k.members)

-- there is a group that must be collapsed, and its collapse is refused with this number
pub record Refused (room : Room) (protected : List ℕ) (s : State) (number : ℕ) : Type 0 where
  pub some : 1 ≤ length (next_group s.graph protected)
  pub by : number ≡ collapse_number room (prefix_len protected s) s (next_group s.graph protected)

-- collapses from s on, one after another, and then an end: none is left, or the next one is refused with the driver's number
pub record Drives (room : Room) (protected : List ℕ) (made : ℕ) (s : State) (r : Run) : Type 0 where
  pub ks : List Collapse
  pub each_allowed : allowed s ks ≡ true
  pub each_taken : (i : ℕ) → i < length ks → (d : Collapse) → Taken protected (after_all s (take i ks)) (get_or ks i d)
  pub state_is : r.state ≡ after_all s ks
  pub made_is : r.made ≡ made + length ks
  pub none_next : r.number ≡ 0 → length (next_group r.state.graph protected) ≡ 0
  pub next_refused : (r.number ≡ 0 → ⊥) → Refused room protected r.state r.number

module _ (room : Room) (protected : List ℕ) where
  -- an end at once
  ends-here : (made number : ℕ) (s : State) → (number ≡ 0 → length (next_group s.graph protected) ≡ 0) → ((number ≡ 0 → ⊥) → Refused room protected s number) → Drives room protected made s (ran number made s)
  ends-here made number s none refused =
      record {
        ks = [];
        each_allowed = refl;
        each_taken = λ i h d. absurd (not-suc-le-zero h);
        state_is = refl;
        made_is = omega arith;
        none_next = none;
        next_refused = refused;
      }

  -- one collapse, then what follows
  module _ (made : ℕ) (s : State) (found : 1 ≤ length (next_group s.graph protected)) (passed : collapse_number room (prefix_len protected s) s (next_group s.graph protected) ≡ 0) where
    abbrev next : Collapse
    next = record { members = next_group s.graph protected; p = prefix_len protected s }

    next-allowed : Allowed s next
    next-allowed = (passes room next.p s next.members passed).members

    next_taken : Taken protected s next
    next_taken =
        let r = next-must s.graph protected next.members refl found in
        record { first = refl; must = must_says s.graph protected next.members r.0; of = (r.1, r.2, r.3); full = refl }

    next_falls : Sound s → live_letters (after_one s next).graph.nodes < live_letters s.graph.nodes
    next_falls h = turn_falls protected s found (collapses s next next-allowed h)

    goes_on_lem : {r : Run} → Drives room protected (made + 1) (after_one s next) r → Drives room protected made s r
    goes_on_lem {r} q =
        record {
          ks = next ∷ q.ks;
          each_allowed = and_both _ _ (eq-eqb _ 0 next-allowed) q.each_allowed;
          each_taken = taken;
          state_is = q.state_is;
          made_is = omega (arith, q.made_is);
          none_next = q.none_next;
          next_refused = q.next_refused;
        }
      where
        taken : (i : ℕ) → i < length (next ∷ q.ks) → (d : Collapse) → Taken protected (after_all s (take i (next ∷ q.ks))) (get_or (next ∷ q.ks) i d)
        taken zero h d = next_taken
        taken (suc i) h d = q.each_taken i (le_of_suc-le-suc h) d

  drives_for : (k made : ℕ) (s : State) → Sound s → live_letters s.graph.nodes ≤ k → Drives room protected made s (drive_for k room protected made s)
  drives_for zero made s h enough =
      ends-here made 0 s (λ e. none (eqb (length (next_group s.graph protected)) 0) refl) (λ n. absurd (n refl))
    where
      none : (b : Bool) → eqb (length (next_group s.graph protected)) 0 ≡ b → length (next_group s.graph protected) ≡ 0
      none true t = eqb-true _ 0 t
      none false t = absurd (omega (arith, some_letter s.graph protected h.good (nonempty _ t)))
  drives_for (suc k) made s h enough =
      let ms = next_group s.graph protected in
      let p = prefix_len protected s in
      let n = collapse_number room p s ms in
      each_end (Drives room protected made s) (eqb (length ms) 0) (eqb n 0) (ran 0 made s) (drive_for k room protected (made + 1) (state_after p s ms)) (ran n made s)
      (λ b. ends-here made 0 s (λ e. eqb-true (length ms) 0 b) (λ f. absurd (f refl)))
      (λ b d.
      let found = nonempty (length ms) b in
      let z : n ≡ 0 = eqb-true n 0 d in
      goes_on_lem made s found z (drives_for k (made + 1) (state_after p s ms) (sound-one s (next made s found z) (next-allowed made s found z) h) (omega (arith, next_falls made s found z h))))
      (λ b d. ends-here made n s (λ e. absurd (eqb-false n 0 d e)) (λ f. record { some = nonempty (length ms) b; by = refl }))

-- no live node has a group, either way round, that the driver must collapse
abbrev pub NoneMust : List ℕ → Graph → Type 0
NoneMust protected g = (v : Handle) → live_node (id_of v) g.nodes ≡ true → (ms : List Handle) → Memᴰ ms (groups_of g v) → Must g protected ms → ⊥

-- a state whose graph is well formed, with each id once
module _ (room : Room) (protected : List ℕ) (s : State) (good : good_graph s.graph ≡ true) (once : ids_once s.graph.nodes ≡ true) where
  pub drives : Drives room protected 0 s (drive room protected s)
  drives = drives_for room protected (live_letters s.graph.nodes) 0 s (record { good = good; once = once }) (omega arith)

  pub none_must_remain : (drive room protected s).number ≡ 0 → NoneMust protected (drive room protected s).state.graph
  none_must_remain z = none_remains (drive room protected s).state.graph protected (drives.none_next z)

  -- as many collapses as it says, and each lowers the live letters by p times (k minus 1)
  pub drive-letters : live_letters (drive room protected s).state.graph.nodes + lowers_all drives.ks ≡ live_letters s.graph.nodes
  drive-letters = ap (λ (x : State). live_letters x.graph.nodes + lowers_all drives.ks) drives.state_is ∙ letters_fall_all s drives.ks good once drives.each_allowed

-- the numbers of a group's collapse where neither its members nor the longer list give one but 11
only_11_or_7 : (high fit : Bool) (n k : ℕ) → n ≡ cond high 11 0 → (high ≡ false → k ≡ 0) → let whole = cond (not (eqb (cond (not (eqb n 0)) n k) 0)) (cond (not (eqb n 0)) n k) (cond (not fit) 7 0) in (whole ≡ 0 → ⊥) → (whole ≡ 11) ⊎ (whole ≡ 7)
only_11_or_7 true fit n k e f h = inl (rw e)
only_11_or_7 false true n k e f h = absurd (h (rw (e, f refl)))
only_11_or_7 false false n k e f h = inr (rw (e, f refl))

-- from a graph without events on, it is refused only for an id above the range, or for room
module _ (room : Room) (protected : List ℕ) (g : Graph) (good : good_graph g ≡ true) (once : ids_once g.nodes ≡ true) where
  abbrev run : Run
  run = drive room protected (beginning g)

  pub refused_11_or_7 : (run.number ≡ 0 → ⊥) → (run.number ≡ 11) ⊎ (run.number ≡ 7)
  refused_11_or_7 n =
      let q = drives room protected (beginning g) good once in
      let end = after_all (beginning g) q.ks in
      let r : Refused room protected end run.number = subst (λ (x : State). Refused room protected x run.number) q.state_is (q.next_refused n) in
      let ms = next_group end.graph protected in
      let p = prefix_len protected end in
      let m = never_8_9_10 protected end r.some in
      rw r.by (only_11_or_7 (needs_high p end.graph ms) (state_fits room (state_after p end ms)) (members_number p end.graph ms) (list_number (longer p end ms)) m
      (λ f. longer-in_order g q.ks good once q.each_allowed (record { members = ms; p = p }) (m ∙ rw f)) (λ z. n (r.by ∙ z)))

-- what a caller finds in the arrays after it
module _ (l : Lent) (letters : List ℕ) (c : Counts) (u : Used) (protected : List ℕ) (ok : goal.Sound l letters c u) where
  abbrev found : State
  found = state_in l letters c u

  good : good_graph found.graph ≡ true
  good = and_true_r (room_for l.nodes letters l.links c) (good_graph found.graph) ok.graph

  whole : Drives (room_of l) protected 0 found (drive (room_of l) protected found)
  whole = drives (room_of l) protected found good ok.ids

  same-letters : (drive (room_of l) protected found).state.graph.letters ≡ found.graph.letters
  same-letters =
      ap (λ (x : State). x.graph.letters) whole.state_is
      ∙ (kept-all (λ x. Sound x × (x.graph.letters ≡ found.graph.letters)) (λ x k a h. (sound-one x k a h.0, (after k.p x.graph k.members (collapses x k a h.0)).letters_same ∙ h.1)) found whole.ks whole.each_allowed (record { good = good; once = ok.ids }, refl)).1

  pub arrays_hold : let o = drive_outcome l letters c u protected in state_in o.arrays letters o.answer.counts o.answer.used ≡ (drive (room_of l) protected found).state
  arrays_hold = stored_back l letters c (drive (room_of l) protected found).state same-letters

  pub none_must_remain_in : let o = drive_outcome l letters c u protected in o.answer.number ≡ 0 → NoneMust protected (graph_of o.arrays.nodes letters o.arrays.links o.answer.counts)
  none_must_remain_in z = subst (λ (x : State). NoneMust protected x.graph) (sym arrays_hold) (none_must_remain (room_of l) protected found good ok.ids z)
