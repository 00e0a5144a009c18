use native.Mathlib.Omega.{arith}
use Rattle.writing.proofs.Filling.{filled-then}
use Rattle.writing.proofs.marks.fill_step.Goals as goal

pub fill_number-requires : goal.fill_number-requires
fill_number-requires c = rw c.id.ensures (omega arith)

pub returns : goal.returns
returns c = rw (← c.id.ensures, ← c.arrow_of.ensures) (filled-then c.fill_byte-p.ensures c.fill_number.ensures)
