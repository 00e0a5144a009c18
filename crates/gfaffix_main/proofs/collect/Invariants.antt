use Prim.Native.Nat.{◌≤◌}
use lib.ListN.{length}
use Rattle.gfaffix_main.proofs.collect.Given as goal

abbrev pub invariant-loop-i : goal.invariant-loop-i
invariant-loop-i g l = l.at ≤ length l.words
