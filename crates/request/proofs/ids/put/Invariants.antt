use Prim.Native.Nat.{◌-◌, ◌≤◌}
use lib.ListN.{length, drop}
use Rattle.text.specs.Pieces.{lines_of}
use Rattle.request.specs.Ids.{ids_of}
use Rattle.request.proofs.Listing.{Listing}
use Rattle.request.proofs.ids.put.Given as goal

abbrev pub invariant-loop-i : goal.invariant-loop-i
invariant-loop-i l = (l.at ≤ length l.text) × Listing (ids_of (lines_of l.text)) l.initial.ids l.ids (lines_of (drop l.at l.text)) l.i

abbrev pub decreases-loop-i : goal.decreases-loop-i
decreases-loop-i l = length l.text - l.at
