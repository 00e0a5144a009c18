use mathlib.Core.Path.{◌≡◌}
use lib.Dec.{eqb}
use lib.ListN.{drop}
use Rattle.kit.specs.Loops.{any}
use Rattle.verdict.proofs.Protected.{ids_on}
use Rattle.verdict.proofs.repeats.in_walk.Given as goal

abbrev pub invariant-loop-j : goal.invariant-loop-j
invariant-loop-j l = any (eqb l.id) (drop l.j (ids_on l.total l.steps l.first l.count)) ≡ any (eqb l.id) (ids_on l.total l.steps l.first l.count)
