use Prim.Native.Nat.{ℕ}
use mathlib.Core.Path.{ap}
use mathlib.Core.List.{[], ◌∷◌}
use native.Mathlib.Omega.{arith}
use lib.ListN.{length, length-append}
use Rattle.kit.specs.Decimal.{decimal}
use Rattle.handle.specs.Handle.{id_of}
use Rattle.writing.specs.Marks.{sign_of}
use Rattle.writing.proofs.Filling.{filled-then}
use Rattle.drawing.proofs.step.fill_path_step.Goals as goal

pub fill_number-end-requires : goal.fill_number-end-requires
fill_number-end-requires c =
    let h = c.args.h in
    rw c.id.ensures (omega (arith, length-append (decimal (id_of h)) (sign_of h ∷ [])))

pub fill_byte-requires : goal.fill_byte-requires
fill_byte-requires c =
    let h = c.args.h in
    omega (arith, c.fill_number-end.ensures.place, ap (λ (x : ℕ). length (decimal x)) c.id.ensures, length-append (decimal (id_of h)) (sign_of h ∷ []))

pub returns : goal.returns
returns c = rw (← c.id.ensures, ← c.sign_of.ensures) (filled-then c.fill_number-end.ensures c.fill_byte.ensures)
