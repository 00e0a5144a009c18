use mathlib.Core.Path.{◌≡◌}
use lib.ListN.{drop}
use Rattle.cases.specs.Faults.{fault_from, fault_of}
use Rattle.cases.proofs.faults.first_fault.Given as goal

abbrev pub invariant-loop-i : goal.invariant-loop-i
invariant-loop-i l = fault_from l.worst (drop l.i l.shape) (drop l.at l.numbers) ≡ fault_of l.shape l.numbers
