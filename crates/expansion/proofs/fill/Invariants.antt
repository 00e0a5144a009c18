use Rattle.expansion.proofs.Filled.{Filled}
use Rattle.expansion.proofs.fill.Given as goal

abbrev pub invariant-loop-i : goal.invariant-loop-i
invariant-loop-i l = Filled l.rules l.steps l.fn.c l.table l.initial.out l.d l.out l.i
