use Prim.Native.Nat.{◌-◌, ◌≤◌}
use mathlib.Core.Path.{◌≡◌}
use lib.ListN.{length, drop}
use Rattle.text.specs.Refusal.{first_number}
use Rattle.text.specs.Steps.{path_step_number, path_steps}
use Rattle.text.proofs.steps.check_path.Given as goal

abbrev pub invariant-loop-at : goal.invariant-loop-at
invariant-loop-at l = (l.at ≤ length l.field) × (first_number path_step_number (path_steps (drop l.at l.field)) ≡ first_number path_step_number (path_steps l.field))

abbrev pub decreases-loop-at : goal.decreases-loop-at
decreases-loop-at l = length l.field - l.at
