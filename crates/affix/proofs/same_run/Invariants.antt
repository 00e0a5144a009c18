use Prim.Native.Nat.{◌+◌}
use mathlib.Core.Path.{◌≡◌}
use lib.ListN.{take, drop}
use Rattle.affix.specs.Reading.{read, agree}
use Rattle.affix.proofs.same_run.Given as goal

abbrev pub invariant-loop-i : goal.invariant-loop-i
invariant-loop-i l = l.i + agree (drop l.i (take l.bound (read l.text l.r))) (drop l.i (read l.text l.s)) ≡ agree (take l.bound (read l.text l.r)) (read l.text l.s)
