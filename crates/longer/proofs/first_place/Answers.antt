use native.Mathlib.Omega.{arith}
use borrow.Author.Tests.{lt-ltb, le-ltb}
use Rattle.longer.proofs.first_place.Goals as goal

pub returns-then-p-len : goal.returns-then-p-len
returns-then-p-len c =
    let a = c.args in
    rw (lt-ltb a.p a.len c.if-p-len.true)

pub returns : goal.returns
returns c =
    let a = c.args in
    rw (le-ltb a.p a.len (omega arith))
