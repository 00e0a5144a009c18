use Rattle.expansion.proofs.Writing.{Writing}
use Rattle.expansion.proofs.write_rules.Given as goal

abbrev pub invariant-loop-i : goal.invariant-loop-i
invariant-loop-i l = Writing l.count l.rules l.lens l.initial.out l.out l.first l.i
