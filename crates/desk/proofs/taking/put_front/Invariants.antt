use Rattle.desk.proofs.Front.{Fronting}
use Rattle.desk.proofs.taking.put_front.Given as goal

abbrev pub invariant-loop-i : goal.invariant-loop-i
invariant-loop-i l = Fronting l.from l.initial.to l.to l.i
