use Prim.Native.Nat.{ℕ, ◌≤◌}
use lib.ListN.{length}
use Rattle.text.specs.StepEnd.{WalkStep}
use Rattle.text.proofs.StepEnds.{StepRest}
use Rattle.text.proofs.steps.walk_step_end.Given as goal

-- the step that goes on at i ends where the one at `from` does
abbrev pub invariant-loop-i : goal.invariant-loop-i
invariant-loop-i l = (l.i ≤ length l.bytes) × ((r : ℕ) → StepRest l.bytes l.i r → WalkStep l.bytes l.from r)
