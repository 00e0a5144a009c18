use Rattle.cases.specs.Answers.{Room}
use Rattle.replay.proofs.lines.Given as goal

abbrev pub invariant-loop : goal.invariant-loop
invariant-loop g l = Room l.at l.out
