use Prim.Native.Nat.{ℕ}
use mathlib.Core.Path.{◌≡◌}
use mathlib.Core.Bool.{true}
use Rattle.events.specs.declared.Used.{Used}
use Rattle.events.specs.Events.{steps_of, list_of}
use Rattle.events.specs.WellFormed.{table_formed, in_order}
use Rattle.events.proofs.Order.{left}
use Rattle.events.proofs.in_order.Given as goal

abbrev pub used : ℕ → ℕ → Used
used n total = record { rules = n; steps = total }

-- the loop does not see how many steps are in use, so this is said for each number that is well formed
abbrev pub invariant-loop-i : goal.invariant-loop-i
invariant-loop-i l = (total : ℕ) → table_formed l.rules l.steps (used l.count total) ≡ true → left l.rules (steps_of total l.steps) l.count l.i ≡ in_order (list_of l.rules l.steps (used l.count total))
