use Prim.Native.Nat.{◌+◌, ◌-◌, ◌≤◌}
use mathlib.Core.Path.{◌≡◌}
use lib.ListN.{length, drop}
use Rattle.text.specs.Pieces.{lines_of}
use Rattle.request.specs.Ids.{ids_of}
use Rattle.request.proofs.ids.count.Given as goal

abbrev pub invariant-loop-n : goal.invariant-loop-n
invariant-loop-n l = (l.at ≤ length l.text) × (l.n ≤ l.at) × (l.n + length (ids_of (lines_of (drop l.at l.text))) ≡ length (ids_of (lines_of l.text)))

abbrev pub decreases-loop-n : goal.decreases-loop-n
decreases-loop-n l = length l.text - l.at
