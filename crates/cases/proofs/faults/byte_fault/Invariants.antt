use mathlib.Core.Path.{◌≡◌}
use lib.ListN.{drop}
use Rattle.kit.specs.Loops.{any}
use Rattle.cases.specs.Faults.{above_byte}
use Rattle.cases.proofs.faults.byte_fault.Given as goal

abbrev pub invariant-loop-i : goal.invariant-loop-i
invariant-loop-i l = any above_byte (drop l.i l.elements) ≡ any above_byte l.elements
