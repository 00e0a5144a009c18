use Prim.Native.Nat.{◌-◌, ◌≤◌}
use mathlib.Core.Path.{◌≡◌}
use mathlib.Core.Bool.{true}
use Rattle.cases.specs.Stream.{line_ends, StaysByte}
use lib.ListN.{length}
use Rattle.cases.proofs.stream.skip_line.Given as goal

abbrev pub invariant-loop-turns : goal.invariant-loop-turns
invariant-loop-turns g l =
    (l.turns ≤ 1099511627776) × (length l.buf ≡ length l.initial.buf) × (line_ends l.initial.source.last ≡ true → l.source ≡ l.initial.source)
    × (l.initial.source.at ≤ length l.initial.buf → l.source.at ≤ length l.buf) × StaysByte l.initial.source l.source

abbrev pub decreases-loop-turns : goal.decreases-loop-turns
decreases-loop-turns g l = 1099511627776 - l.turns
