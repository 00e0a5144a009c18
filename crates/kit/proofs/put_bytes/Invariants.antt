use Rattle.kit.proofs.Writes.{Putting}
use Rattle.kit.proofs.put_bytes.Given as goal

abbrev pub invariant-loop-i : goal.invariant-loop-i
invariant-loop-i l = Putting l.bytes l.at l.initial.out l.out l.i
