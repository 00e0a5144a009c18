use Rattle.cases.specs.Answers.{Room}
use Rattle.cases.proofs.output.put_text.Given as goal

abbrev pub invariant-loop-b : goal.invariant-loop-b
invariant-loop-b g l = Room l.to l.out
