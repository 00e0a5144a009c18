use Rattle.affix.specs.Reading.{read}
use Rattle.kit.proofs.Writes.{Putting}
use Rattle.spelling.proofs.put_letters.Given as goal

abbrev pub invariant-loop-i : goal.invariant-loop-i
invariant-loop-i l = Putting (read l.text l.r) l.at l.initial.out l.out l.i
