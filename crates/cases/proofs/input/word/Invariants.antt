use Rattle.cases.specs.Stream.{StaysByte}
use Rattle.cases.proofs.input.word.Given as goal

abbrev pub invariant-loop-i : goal.invariant-loop-i
invariant-loop-i g l = StaysByte l.initial.s l.s
