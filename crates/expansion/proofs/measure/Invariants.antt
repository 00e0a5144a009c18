use mathlib.Core.Path.{◌≡◌}
use lib.ListN.{length}
use Rattle.events.proofs.Says.{RuleRoom}
use Rattle.expansion.proofs.Lengths.{Measuring}
use Rattle.expansion.proofs.measure.Given as goal

abbrev pub invariant-loop-i : goal.invariant-loop-i
invariant-loop-i l = Measuring l.rules l.steps l.c l.lens l.total l.i × RuleRoom l.rules l.steps l.c × (length l.lens ≡ length l.initial.lens)
