use mathlib.Core.Path.{◌∙◌}
use native.Mathlib.Omega.{arith}
use borrow.Author.Tests.{eq-eqb, ne_eqb}
use Rattle.handle.specs.Handle.{dir_of}
use Rattle.longer.proofs.facing.Goals as goal

pub returns-then-direction-eq-FORWARD : goal.returns-then-direction-eq-FORWARD
returns-then-direction-eq-FORWARD c =
    let a = c.args in
    rw (eq-eqb (dir_of a.m) 0 (omega (arith, c.direction.ensures, c.if-direction-eq-FORWARD.true)))

pub returns : goal.returns
returns c =
    let a = c.args in
    rw (ne_eqb (dir_of a.m) 0 (λ e. c.if-direction-eq-FORWARD.false (c.direction.ensures ∙ e))) c.flip.ensures
