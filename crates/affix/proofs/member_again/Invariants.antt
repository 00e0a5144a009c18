use mathlib.Core.Path.{◌≡◌}
use lib.Dec.{eqb}
use lib.ListN.{drop}
use Rattle.kit.specs.Loops.{any}
use Rattle.handle.specs.Handle.{id_of}
use Rattle.affix.specs.Prefix.{handles_of}
use Rattle.affix.proofs.member_again.Given as goal

abbrev pub invariant-loop-i : goal.invariant-loop-i
invariant-loop-i l = any (λ v. eqb l.id (id_of v)) (drop l.i (handles_of l.members)) ≡ any (λ v. eqb l.id (id_of v)) (drop l.start (handles_of l.members))
