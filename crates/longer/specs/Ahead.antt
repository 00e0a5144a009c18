-- How the code makes the events: from the nodes before the collapse and a running fresh id, before anything is stored.
use Rattle.std.specs.Prelude.{ℕ, ◌+◌, ◌-◌, Bool, cond, not, List, [], ◌∷◌, ◌++◌}
use Rattle.kit.specs.Loops.{all, any}
use Rattle.handle.specs.declared.Handle.{Handle}
use Rattle.handle.specs.Handle.{id_of}
use Rattle.store.specs.declared.Node.{Node}
use Rattle.store.specs.Views.{node_named, largest}
use Rattle.events.specs.Events.{Event, event, step_to, turn_steps, keyed}
use Rattle.events.specs.declared.Rule.{Rule}
use Rattle.events.specs.declared.Step.{Step}
use Rattle.merging.specs.Merging.{is_forward}
use Rattle.merging.specs.Plan.{long_by, fresh_after, prefix_by, suffix_by}

abbrev pub walk_by : ℕ → List Node → Handle → ℕ → Handle → List Step
walk_by p nodes x fresh m =
    cond (long_by p nodes m) (step_to x p ∷ step_to (suffix_by fresh m) ((node_named (id_of m) nodes).len - p) ∷ []) (step_to x p ∷ [])

abbrev pub event_by : ℕ → List Node → Handle → ℕ → Handle → Event
event_by p nodes x fresh m =
    event (id_of m) (node_named (id_of m) nodes).len
    (cond (is_forward m) (walk_by p nodes x fresh m) (turn_steps (walk_by p nodes x fresh m)))

abbrev pub later_events_by : ℕ → List Node → Handle → ℕ → List Handle → List Event
later_events_by p nodes x fresh [] = []
later_events_by p nodes x fresh (m ∷ ms) =
    event_by p nodes x fresh m ∷ later_events_by p nodes x (fresh_after p nodes fresh m) ms

-- the first member's event, where it has one
abbrev pub first_event_by : ℕ → List Node → Handle → List Event
first_event_by p nodes m =
    let fresh = largest nodes + 1 in
    cond (long_by p nodes m) (event_by p nodes (prefix_by p nodes fresh m) fresh m ∷ []) []

abbrev pub events_by : ℕ → List Node → List Handle → List Event
events_by p nodes [] = []
events_by p nodes (m ∷ ms) =
    let fresh = largest nodes + 1 in
    first_event_by p nodes m ++ later_events_by p nodes (prefix_by p nodes fresh m) (fresh_after p nodes fresh m) ms

-- no new event has an old key, and no step of a new event has an old rule
abbrev pub keys_new : List Rule → List Event → Bool
keys_new rules es = all (λ e. not (any (keyed e.id e.len) rules)) es

abbrev pub steps_new : List Rule → List Event → Bool
steps_new rules es = all (λ e. all (λ s. not (any (keyed (id_of s.node) s.len) rules)) e.walk) es
