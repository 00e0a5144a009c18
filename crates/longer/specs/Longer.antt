-- How the code appends: members from a place on, one after another, each by its length.
use Rattle.std.specs.Prelude.{ℕ, ◌+◌, ◌-◌, ◌*◌, ◌≤◌, ◌≡◌, true, cond, List, [], ◌∷◌, ◌++◌, ltb, length, drop}
use Rattle.kit.specs.Layout.{Layout, encode}
use Rattle.kit.specs.Loops.{count}
use Rattle.handle.specs.declared.Handle.{Handle}
use Rattle.handle.specs.Handle.{max_id, id_of, pack, flip}
use Rattle.store.specs.declared.Node.{Node}
use Rattle.store.specs.Views.{largest}
use Rattle.affix.specs.Prefix.{members_live, members_once}
use Rattle.events.specs.declared.Used.{Used}
use Rattle.events.specs.Events.{Rules, rule_layout, step_layout, Event, event, step_to, turn_steps}
use Rattle.events.specs.declared.Step.{Step}
use Rattle.merging.specs.Merging.{is_forward}
use Rattle.merging.specs.Plan.{long_by, prefix_by, suffix_by}
use Rattle.longer.specs.declared.Run.{Run}
use Rattle.longer.specs.Ahead.{later_events_by}

-- a member of this many letters: the fresh id after it, the node of its first p letters, its event
abbrev pub fresh_one : ℕ → ℕ → ℕ → ℕ
fresh_one p len fresh = cond (ltb p len) (fresh + 1) fresh

abbrev pub prefix_one : ℕ → ℕ → ℕ → Handle → Handle
prefix_one p len fresh m = cond (ltb p len) (cond (is_forward m) m (pack fresh 1)) m

abbrev pub walk_one : ℕ → ℕ → Handle → ℕ → Handle → List Step
walk_one p len x fresh m =
    cond (ltb p len) (step_to x p ∷ step_to (suffix_by fresh m) (len - p) ∷ []) (step_to x p ∷ [])

abbrev pub event_one : ℕ → ℕ → Handle → ℕ → Handle → Event
event_one p len x fresh m =
    event (id_of m) len (cond (is_forward m) (walk_one p len x fresh m) (turn_steps (walk_one p len x fresh m)))

-- an oriented node as it stands in the walk of a member
abbrev pub facing : Handle → Handle → Handle
facing m h = cond (is_forward m) h (flip h)

-- the first member says where the events begin: it has one only if it is long
abbrev pub beginning : ℕ → List Node → Handle → Run
beginning p nodes m =
    record {
      x = prefix_by p nodes (largest nodes + 1) m;
      fresh = largest nodes + 1;
      place = cond (long_by p nodes m) 0 1;
    }

abbrev pub events_from : ℕ → List Node → Run → List Handle → List Event
events_from p nodes r ms = later_events_by p nodes r.x r.fresh (drop r.place ms)

-- an array with these records in front, and after them as it was
abbrev pub front : {A : Type 0} → Layout A → List A → List ℕ → List ℕ
front L rs l = encode L rs ++ drop (L.stride * length rs) l

-- the two arrays hold this list now, and r says how much of them is in use
pub record Holds (t : Rules) (rules steps rules' steps' : List ℕ) (r : Used) : Type 0 where
  pub used : r ≡ record { rules = length t.rules; steps = length t.steps }
  pub rules_now : rules' ≡ front rule_layout t.rules rules
  pub steps_now : steps' ≡ front step_layout t.steps steps

-- there is room for it
pub record RoomFor (t : Rules) (rules steps : List ℕ) : Type 0 where
  pub rule_room : 4 * length t.rules ≤ length rules
  pub step_room : 2 * length t.steps ≤ length steps

-- what the members have passed, as far as events need it: at least one, live, none twice, p letters or more, ids in range
pub record Passed (p : ℕ) (nodes : List Node) (ms : List Handle) : Type 0 where
  pub some : 1 ≤ length ms
  pub live : members_live nodes ms ≡ true
  pub once : members_once ms ≡ true
  pub low : 1 ≤ p
  pub enough : largest nodes + count (long_by p nodes) ms ≤ max_id
