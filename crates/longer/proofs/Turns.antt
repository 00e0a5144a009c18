-- Turns of the loops over members: what is left from place i on.
use Prim.Native.Nat.{ℕ, ◌+◌, ◌≤◌, ◌<◌}
use mathlib.Core.Path.{◌≡◌, refl, sym, ap, ◌∙◌}
use mathlib.Core.Bool.{Bool, cond, not}
use mathlib.Core.List.{List, [], ◌∷◌}
use native.Mathlib.Omega.{arith}
use lib.ListN.{length, drop, get_or}
use Rattle.kit.specs.Loops.{all, any, count}
use Rattle.kit.proofs.Steps.{sum_more}
use Rattle.handle.specs.declared.Handle.{Handle}
use Rattle.handle.specs.Handle.{id_of}
use Rattle.store.specs.Graph.{handle}
use Rattle.store.specs.declared.Node.{Node}
use Rattle.store.specs.Views.{largest}
use Rattle.affix.specs.Prefix.{handles_of}
use Rattle.affix.proofs.Runs.{left-handle, no_handle}
use Rattle.events.specs.Events.{keyed}
use Rattle.events.specs.declared.Rule.{Rule}
use Rattle.merging.specs.Plan.{long_by, fresh_after, prefix_by}
use Rattle.longer.specs.declared.Run.{Run}
use Rattle.longer.specs.Ahead.{later_events_by, events_by, keys_new}
use Rattle.longer.specs.Longer.{fresh_one, event_one, beginning, events_from}
use Rattle.longer.proofs.ByMember.{start_at, length_in, one_more, events_run, from_start, run-all}

-- the member at place i, of which the code has the length
module _ (p : ℕ) (nodes : List Node) (members : List ℕ) (i : ℕ) where
  module _ (len : ℕ) (h : i < length members) (e : len ≡ length_in nodes (handle (get_or members i 0))) where
    -- a running number that counts the long members
    pub count_turn : (n : ℕ) → fresh_one p len n + count (long_by p nodes) (drop (i + 1) (handles_of members)) ≡ n + count (long_by p nodes) (drop i (handles_of members))
    count_turn n =
        rw e (omega (arith, one_more (long_by p nodes (handle (get_or members i 0))) n, sum_more (λ (m : Handle). cond (long_by p nodes m) 1 0) (left-handle members i h)))

    -- the next event, and the run after it
    pub run-turn : (x : Handle) (fresh : ℕ) → later_events_by p nodes x fresh (drop i (handles_of members)) ≡ event_one p len x fresh (handle (get_or members i 0)) ∷ later_events_by p nodes x (fresh_one p len fresh) (drop (i + 1) (handles_of members))
    run-turn x fresh = rw (left-handle members i h, e)

  pub run_end : (x : Handle) (fresh : ℕ) → length members ≤ i → later_events_by p nodes x fresh (drop i (handles_of members)) ≡ []
  run_end x fresh h = rw (no_handle members i h)

-- the member's key is not among the rules
abbrev pub key_new : List Rule → List Node → Handle → Bool
key_new rules nodes m = not (any (keyed (id_of m) (length_in nodes m)) rules)

pub key_told : (rules : List Rule) (nodes : List Node) (m : Handle) (id len : ℕ) {b : Bool} → b ≡ not (any (keyed id len) rules) → id ≡ id_of m → len ≡ length_in nodes m → key_new rules nodes m ≡ b
key_told rules nodes m id len e f g = rw (e, f, g)

-- members that are lent as numbers, from the first on
module _ (p : ℕ) (nodes : List Node) where
  abbrev first : List ℕ → Handle
  first ns = handle (get_or ns 0 0)

  members_run : (ns : List ℕ) → 1 ≤ length ns → events_by p nodes (handles_of ns) ≡ events_from p nodes (beginning p nodes (first ns)) (handles_of ns)
  members_run [] h = absurd (omega arith)
  members_run (n ∷ ns) h = events_run p nodes (handle n) (handles_of ns)

  pub begun_run : (ns : List ℕ) → 1 ≤ length ns → {r : Run} → r ≡ beginning p nodes (first ns) → events_by p nodes (handles_of ns) ≡ events_from p nodes r (handles_of ns)
  begun_run ns h e = members_run ns h ∙ ap (λ (r : Run). events_from p nodes r (handles_of ns)) (sym e)

  pub keys_run : (rules : List Rule) (ns : List ℕ) → 1 ≤ length ns → keys_new rules (events_by p nodes (handles_of ns)) ≡ all (key_new rules nodes) (drop (start_at p nodes (first ns)) (handles_of ns))
  keys_run rules ns h =
      ap (keys_new rules) (members_run ns h)
      ∙ run-all p nodes (prefix_by p nodes (largest nodes + 1) (first ns)) (λ (id len : ℕ). not (any (keyed id len) rules)) (largest nodes + 1) (drop (start_at p nodes (first ns)) (handles_of ns))

  -- the fresh ids are in range
  module _ (top : ℕ) where
    pub first_fits : (ns : List ℕ) → 1 ≤ length ns → largest nodes + count (long_by p nodes) (handles_of ns) ≤ top → fresh_after p nodes (largest nodes + 1) (first ns) ≤ top + 1
    first_fits [] h k = absurd (omega arith)
    first_fits (n ∷ ns) h k = omega (arith, one_more (long_by p nodes (handle n)) (largest nodes + 1))

    pub all_fit : (ns : List ℕ) → 1 ≤ length ns → largest nodes + count (long_by p nodes) (handles_of ns) ≤ top → largest nodes + 1 + count (long_by p nodes) (drop (start_at p nodes (first ns)) (handles_of ns)) ≤ top + 1
    all_fit [] h k = absurd (omega arith)
    all_fit (n ∷ ns) h k = omega (arith, (from_start p nodes (handle n) (handles_of ns) (long_by p nodes (handle n)) refl).1)
