use Rattle.cases.specs.Stream.{StaysByte}
use Rattle.cases.proofs.input.digits.Given as goal

abbrev pub invariant-loop-seen : goal.invariant-loop-seen
invariant-loop-seen g l = StaysByte l.initial.s l.s
