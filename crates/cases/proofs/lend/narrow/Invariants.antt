use mathlib.Core.Path.{◌≡◌}
use mathlib.Core.List.{map}
use lib.ListN.{length, take}
use Rattle.cases.specs.Parts.{low_byte}
use Rattle.cases.proofs.lend.narrow.Given as goal

abbrev pub invariant-loop-i : goal.invariant-loop-i
invariant-loop-i l = (length l.to ≡ length l.initial.to) × (take l.i l.to ≡ take l.i (map low_byte l.from))
