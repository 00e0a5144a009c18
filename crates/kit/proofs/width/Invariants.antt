use Rattle.std.proofs.Common.{length, ◌+◌, ◌≡◌}
use Rattle.kit.specs.Decimal.{decimal}
use Rattle.kit.proofs.width.Given as goal

abbrev pub invariant-loop-x : goal.invariant-loop-x
invariant-loop-x l = l.w + length (decimal l.x) ≡ length (decimal l.n) + 1

abbrev pub decreases-loop-x : goal.decreases-loop-x
decreases-loop-x l = l.x
