use Prim.Native.Nat.{◌+◌, ◌-◌, ◌≤◌}
use mathlib.Core.Path.{◌≡◌}
use lib.ListN.{length, drop}
use Rattle.std.specs.Prelude.{None}
use Rattle.request.specs.Words.{words_of, count_words}
use Rattle.request.proofs.ask.count.Given as goal

abbrev pub invariant-loop-sought : goal.invariant-loop-sought
invariant-loop-sought g l = (l.at ≤ length l.words) × (l.n ≤ l.at) × (l.n + count_words l.sought l.wanted (words_of (drop l.at l.words)) ≡ count_words l.sought None (words_of l.words))

abbrev pub decreases-loop-sought : goal.decreases-loop-sought
decreases-loop-sought g l = length l.words - l.at
