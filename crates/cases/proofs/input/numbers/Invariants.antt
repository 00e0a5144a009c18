use Prim.Native.Nat.{◌-◌, ◌≤◌}
use mathlib.Core.Path.{◌≡◌}
use lib.ListN.{length}
use Rattle.cases.specs.Stream.{StaysByte}
use Rattle.cases.proofs.input.numbers.Given as goal

abbrev pub invariant-loop-at : goal.invariant-loop-at
invariant-loop-at g l = (l.at ≤ length l.initial.out) × (length l.out ≡ length l.initial.out) × (length l.buf ≡ length l.initial.buf) × StaysByte l.initial.s l.s

abbrev pub decreases-loop-at : goal.decreases-loop-at
decreases-loop-at g l = length l.initial.out - l.at
