-- What a collapse adds to the event list, and when it is refused: 01 "Prefix, groups, collapse", events; 01 "Numbers that
-- say no".
use Rattle.std.specs.Prelude.{ℕ, ◌+◌, ◌-◌, ◌*◌, Bool, true, cond, not, ◌&&◌, List, [], ◌∷◌, ◌++◌, eqb, leb, ltb, length}
use Rattle.kit.specs.Loops.{all, count}
use Rattle.handle.specs.declared.Handle.{Handle}
use Rattle.handle.specs.Handle.{max_id, id_of}
use Rattle.store.specs.Graph.{Graph}
use Rattle.store.specs.Views.{len_of, largest}
use Rattle.sides.specs.Sides.{same_left}
use Rattle.affix.specs.Prefix.{members_live, members_once, group_prefix}
use Rattle.events.specs.Events.{Rules, Event, event, step_to, turn_steps, append_all}
use Rattle.events.specs.declared.Step.{Step}
use Rattle.events.specs.WellFormed.{keys_once, in_order}
use Rattle.merging.specs.Merging.{is_long, is_forward, alone, prefix_of, suffix_of, later, collapsed}

-- the graph and the events so far
pub record State : Type 0 where
  pub graph : Graph
  pub events : Rules

abbrev pub state : Graph → Rules → State
state g t = record { graph = g; events = t }

-- the shared node x, then a long member's suffix; g is the graph before the member's turn
abbrev pub walk_for : ℕ → Handle → Graph → Handle → List Step
walk_for p x g m =
    cond (is_long p g m) (step_to x p ∷ step_to (suffix_of g m) (len_of g (id_of m) - p) ∷ []) (step_to x p ∷ [])

-- key (id, length before); reversed and flipped for a reversed member
abbrev pub event_for : ℕ → Handle → Graph → Handle → Event
event_for p x g m =
    event (id_of m) (len_of g (id_of m)) (cond (is_forward m) (walk_for p x g m) (turn_steps (walk_for p x g m)))

abbrev pub later_events : ℕ → Handle → Graph → List Handle → List Event
later_events p x g [] = []
later_events p x g (m ∷ ms) = event_for p x g m ∷ later_events p x (later p x g m) ms

-- in member order; none for a first member of p letters
abbrev pub events_for : ℕ → Graph → List Handle → List Event
events_for p g [] = []
events_for p g (m ∷ ms) =
    cond (is_long p g m) (event_for p (prefix_of p g m) g m ∷ []) [] ++ later_events p (prefix_of p g m) (alone p g m) ms

abbrev pub longer : ℕ → State → List Handle → Rules
longer p s ms = append_all s.events (events_for p s.graph ms)

abbrev pub state_after : ℕ → State → List Handle → State
state_after p s ms = state (collapsed p s.graph ms) (longer p s ms)

-- 10: the members' sets of live left neighbours are the first one's
abbrev pub same_lefts : Graph → List Handle → Bool
same_lefts g [] = true
same_lefts g (m ∷ ms) = all (same_left g m) ms

-- 11: an id above the range
abbrev pub needs_high : ℕ → Graph → List Handle → Bool
needs_high p g ms = ltb max_id (largest g.nodes + count (is_long p g) ms)

-- 8 to 11
abbrev pub members_number : ℕ → Graph → List Handle → ℕ
members_number p g ms =
    cond (ltb (length ms) 2) 8
    (cond (not (members_live g.nodes ms)) 8
    (cond (not (members_once ms)) 8
    (cond (eqb p 0) 9
    (cond (ltb (length (group_prefix g ms)) p) 9
    (cond (not (same_lefts g ms)) 10
    (cond (needs_high p g ms) 11
    0))))))

-- 5 and 12 that the longer list gives
abbrev pub list_number : Rules → ℕ
list_number t =
    cond (not (keys_once t.rules)) 5
    (cond (not (in_order t)) 12
    0)

abbrev pub group_number : ℕ → State → List Handle → ℕ
group_number p s ms =
    cond (not (eqb (members_number p s.graph ms) 0)) (members_number p s.graph ms) (list_number (longer p s ms))

-- the lengths of the four lent arrays
pub record Room : Type 0 where
  pub nodes : ℕ
  pub links : ℕ
  pub rules : ℕ
  pub steps : ℕ

-- 7: records inside the lent room and the limits, marked slots among them
abbrev pub fits : ℕ → ℕ → ℕ → ℕ → Bool
fits stride limit n room = leb n limit && leb (stride * n) room

abbrev pub state_fits : Room → State → Bool
state_fits room s =
    (fits 4 65536 (length s.graph.nodes) room.nodes && fits 3 131072 (length s.graph.links) room.links)
    && (fits 4 65536 (length s.events.rules) room.rules && fits 2 262144 (length s.events.steps) room.steps)

-- all of a collapse's own, 7 last
abbrev pub collapse_number : Room → ℕ → State → List Handle → ℕ
collapse_number room p s ms =
    cond (not (eqb (group_number p s ms) 0)) (group_number p s ms)
    (cond (not (state_fits room (state_after p s ms))) 7
    0)
