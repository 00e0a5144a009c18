use mathlib.Core.Path.{◌≡◌}
use lib.ListN.{take, drop}
use Rattle.cases.specs.Parts.{rest_of}
use Rattle.cases.proofs.parts.place.Given as goal

abbrev pub invariant-loop-i : goal.invariant-loop-i
invariant-loop-i l = rest_of (drop l.i (take l.k l.shape)) (drop l.at l.numbers) ≡ rest_of (take l.k l.shape) l.numbers
