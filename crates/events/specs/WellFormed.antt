-- Event lists and tables that are well formed, and what faulty ones give: 01 "Numbers that say no", 13, 5 and 12.
use Rattle.std.specs.Prelude.{ℕ, ◌+◌, ◌*◌, Bool, true, not, ◌&&◌, List, [], ◌∷◌, ◌++◌, leb, length}
use Rattle.kit.specs.Loops.{all, any, distinct}
use Rattle.handle.specs.Handle.{is_id, is_handle, id_of}
use Rattle.events.specs.declared.Used.{Used}
use Rattle.events.specs.Events.{Rules, list_of, walk_of, keyed}
use Rattle.events.specs.declared.Rule.{Rule}
use Rattle.events.specs.declared.Step.{Step}

-- counts inside the lent arrays and the limits
abbrev pub room_for_rules : List ℕ → List ℕ → Used → Bool
room_for_rules rules steps c =
    (leb c.rules 65536 && leb (4 * c.rules) (length rules)) && (leb c.steps 262144 && leb (2 * c.steps) (length steps))

-- id in range, steps inside those in use
abbrev pub good_rule : ℕ → Rule → Bool
good_rule steps r = is_id r.id && leb (r.first + r.steps) steps

abbrev pub good_step : Step → Bool
good_step s = is_handle s.node

-- a table's rule may have no steps, an event may not
abbrev pub good_table : Rules → Bool
good_table t = all (good_rule (length t.steps)) t.rules && all good_step t.steps

abbrev pub has_step : Rule → Bool
has_step r = leb 1 r.steps

abbrev pub table_formed : List ℕ → List ℕ → Used → Bool
table_formed rules steps c = room_for_rules rules steps c && good_table (list_of rules steps c)

abbrev pub events_formed : List ℕ → List ℕ → Used → Bool
events_formed rules steps c = table_formed rules steps c && all has_step (list_of rules steps c).rules

-- 5: no key given twice
abbrev pub keys_once : List Rule → Bool
keys_once rs = distinct (λ r s. keyed r.id r.len s) rs

-- 12: no step has its own rule at its event or before it; `met` are the events up to there
abbrev pub steps_later : List Rule → List Step → Bool
steps_later met ss = all (λ s. not (any (keyed (id_of s.node) s.len) met)) ss

abbrev pub in_order_from : List Rule → List Step → List Rule → Bool
in_order_from met steps [] = true
in_order_from met steps (r ∷ rs) = steps_later (met ++ (r ∷ [])) (walk_of steps r) && in_order_from (met ++ (r ∷ [])) steps rs

abbrev pub in_order : Rules → Bool
in_order t = in_order_from [] t.steps t.rules
