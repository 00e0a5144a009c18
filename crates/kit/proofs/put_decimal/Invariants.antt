use Rattle.std.proofs.Common.{length, ◌≡◌, ◌+◌, ◌<◌}
use lib.Seq.{sets}
use Rattle.kit.specs.Decimal.{decimal}
use Rattle.kit.proofs.put_decimal.Given as goal

abbrev pub invariant-loop-x : goal.invariant-loop-x
invariant-loop-x l = (length l.out ≡ length l.initial.out) × (l.k < l.at + l.w) × (l.at + length (decimal l.x) ≡ l.k + 1) × (sets l.out l.at (decimal l.x) ≡ sets l.initial.out l.at (decimal l.n))

abbrev pub decreases-loop-x : goal.decreases-loop-x
decreases-loop-x l = l.x
