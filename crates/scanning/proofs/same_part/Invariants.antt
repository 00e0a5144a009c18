use mathlib.Core.Path.{◌≡◌}
use lib.ListN.{take, drop}
use Rattle.letters.specs.Sequences.{same_spelling}
use Rattle.affix.specs.Reading.{read}
use Rattle.scanning.proofs.same_part.Given as goal

abbrev pub invariant-loop-k : goal.invariant-loop-k
invariant-loop-k l = same_spelling (drop l.k (take l.len (drop l.off (read l.old_text l.r)))) (drop l.k (read l.text l.s)) ≡ same_spelling (take l.len (drop l.off (read l.old_text l.r))) (read l.text l.s)
