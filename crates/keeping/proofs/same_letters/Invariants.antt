use mathlib.Core.Path.{◌≡◌}
use lib.ListN.{drop}
use Rattle.letters.specs.Sequences.{same_spelling}
use Rattle.affix.specs.Reading.{read}
use Rattle.keeping.proofs.same_letters.Given as goal

abbrev pub invariant-loop-i : goal.invariant-loop-i
invariant-loop-i l = same_spelling (drop l.i (read l.oldtext l.r)) (drop l.i (read l.text l.s)) ≡ same_spelling (read l.oldtext l.r) (read l.text l.s)
