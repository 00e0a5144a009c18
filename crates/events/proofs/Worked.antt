-- 01's C14 as a list: (2,3) to 2:2, 4:1, then (2,2) to 2:1, 6:1; and faulty ones.
use Prim.Native.Nat.{ℕ}
use mathlib.Core.Path.{◌≡◌, refl}
use mathlib.Core.Bool.{true, false}
use mathlib.Core.List.{List, [], ◌∷◌}
use Rattle.std.specs.Prelude.{Some, None}
use Rattle.events.specs.declared.Used.{Used}
use Rattle.events.specs.Events.{Rules, list_of, find_rule}
use Rattle.events.specs.WellFormed.{table_formed, events_formed, keys_once, in_order}

abbrev rules : List ℕ
rules = 2 ∷ 3 ∷ 0 ∷ 2 ∷ 2 ∷ 2 ∷ 2 ∷ 2 ∷ []

abbrev steps : List ℕ
steps = 4 ∷ 2 ∷ 8 ∷ 1 ∷ 4 ∷ 1 ∷ 12 ∷ 1 ∷ []

abbrev used : ℕ → ℕ → Used
used n m = record { rules = n; steps = m }

abbrev t : Rules
t = list_of rules steps (used 2 4)

c14 : (events_formed rules steps (used 2 4) ≡ true) × (keys_once t.rules ≡ true) × (in_order t ≡ true) × (find_rule 2 2 t.rules ≡ Some 1) × (find_rule 2 1 t.rules ≡ None)
c14 = (refl, refl, refl, refl, refl)

-- a step too few in use; an id of 0 in a step; a rule without steps, which a table may have
bad : (table_formed rules steps (used 2 3) ≡ false) × (table_formed rules (0 ∷ 0 ∷ []) (used 0 1) ≡ false) × (events_formed (2 ∷ 3 ∷ 0 ∷ 0 ∷ []) [] (used 1 0) ≡ false) × (table_formed (2 ∷ 3 ∷ 0 ∷ 0 ∷ []) [] (used 1 0) ≡ true)
bad = (refl, refl, refl, refl)

-- the two events the other way round, and an event whose step has its own key
late : (in_order (list_of (2 ∷ 2 ∷ 2 ∷ 2 ∷ 2 ∷ 3 ∷ 0 ∷ 2 ∷ []) steps (used 2 4)) ≡ false) × (in_order (list_of (2 ∷ 2 ∷ 0 ∷ 1 ∷ []) (4 ∷ 2 ∷ []) (used 1 1)) ≡ false)
late = (refl, refl)
