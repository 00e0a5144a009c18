-- Expansion of an event list into a table: 01 "Prefix, groups, collapse", last paragraph.
use Rattle.std.specs.Prelude.{cond, List, [], ◌∷◌, eqb}
use Rattle.kit.specs.Loops.{lines}
use Rattle.handle.specs.Handle.{id_of, dir_of}
use Rattle.events.specs.Events.{Rules, Event, event, walk_of, keyed, turn_steps, append_all}
use Rattle.events.specs.declared.Rule.{Rule}
use Rattle.events.specs.declared.Step.{Step}

-- a node's expansion by the events still ahead: that of its rule's walk, by the events after the rule, reversed and
-- flipped for a reversed step; the step itself where it has no rule
abbrev pub expand_node : List Step → List Rule → Step → List Step
expand_node steps [] s = s ∷ []
expand_node steps (r ∷ ahead) s =
    cond (keyed (id_of s.node) s.len r)
    (cond (eqb (dir_of s.node) 0) (lines (expand_node steps ahead) (walk_of steps r))
    (turn_steps (lines (expand_node steps ahead) (walk_of steps r))))
    (expand_node steps ahead s)

-- a walk's: that of each of its nodes
abbrev pub expand_walk : List Step → List Rule → List Step → List Step
expand_walk steps ahead ws = lines (expand_node steps ahead) ws

-- the events' keys and order
abbrev pub expand_from : List Step → List Rule → List Event
expand_from steps [] = []
expand_from steps (r ∷ ahead) = event r.id r.len (expand_walk steps ahead (walk_of steps r)) ∷ expand_from steps ahead

abbrev pub expanded : Rules → Rules
expanded t = append_all (record { rules = []; steps = [] }) (expand_from t.steps t.rules)
