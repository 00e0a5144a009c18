use Prim.Native.Nat.{ℕ}
use mathlib.Core.Path.{ap}
use native.Mathlib.Omega.{arith}
use lib.ListN.{length}
use Rattle.kit.specs.Decimal.{decimal}
use Rattle.writing.proofs.Filling.{filled-then}
use Rattle.writing.proofs.Texts.{end_size}
use Rattle.writing.proofs.marks.fill_end.Goals as goal

pub fill_number-p-requires : goal.fill_number-p-requires
fill_number-p-requires c = rw c.id.ensures (omega (arith, end_size c.args.h))

pub fill_bytes-requires : goal.fill_bytes-requires
fill_bytes-requires c = omega (arith, c.fill_number-p.ensures.place, ap (λ (x : ℕ). length (decimal x)) c.id.ensures, end_size c.args.h)

pub returns : goal.returns
returns c = rw (← c.id.ensures, ← c.sign_of.ensures) (filled-then c.fill_number-p.ensures c.fill_bytes.ensures)
