-- The table that a list of events gives when its walks stand one after another, and the lengths of its walks.
use Rattle.std.specs.Prelude.{ℕ, ◌+◌, min, List, [], ◌∷◌, map, length, get_or, Option, Some, None}
use Rattle.events.specs.declared.Used.{Used}
use Rattle.events.specs.Events.{rule, rules_of, steps_of, Event}
use Rattle.events.specs.declared.Rule.{Rule}
use Rattle.expansion.specs.Expansion.{expand_from}

-- the same rules from the keys of a list and the lengths of the walks
abbrev pub rules_by : ℕ → List Rule → List ℕ → List Rule
rules_by first [] ls = []
rules_by first (r ∷ rs) [] = []
rules_by first (r ∷ rs) (l ∷ ls) = rule r.id r.len first l ∷ rules_by (first + l) rs ls

-- a length as it is counted: one past the limit of steps stands for all that are longer
abbrev pub capped : ℕ → ℕ
capped n = min n 262145

abbrev pub sizes_of : List Event → List ℕ
sizes_of es = map (λ e. capped (length e.walk)) es

-- a node's length, by what a lookup of its rule answers and the lengths of the rules' walks
abbrev pub size_at : List ℕ → Option ℕ → ℕ
size_at ls (Some j) = get_or ls j 0
size_at ls None = 1

-- the expanded events of a list in two lent arrays
abbrev pub events_in : List ℕ → List ℕ → Used → List Event
events_in rules steps c = expand_from (steps_of c.steps steps) (rules_of c.rules rules)
