use mathlib.Core.Path.{◌≡◌}
use lib.ListN.{length, take}
use Rattle.cases.proofs.lend.widen.Given as goal

abbrev pub invariant-loop-i : goal.invariant-loop-i
invariant-loop-i l = (length l.to ≡ length l.initial.to) × (take l.i l.to ≡ take l.i l.from)
