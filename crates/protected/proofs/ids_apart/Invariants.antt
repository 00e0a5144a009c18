use mathlib.Core.Path.{◌≡◌}
use lib.Dec.{eqb}
use lib.ListN.{drop}
use Rattle.kit.specs.Loops.{distinct}
use Rattle.protected.proofs.ids_apart.Given as goal

abbrev pub invariant-loop-i : goal.invariant-loop-i
invariant-loop-i l = distinct eqb (drop l.i l.ids) ≡ distinct eqb l.ids
