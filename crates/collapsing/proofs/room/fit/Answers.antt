use Prim.Native.Nat.{◌+◌, ◌≤◌}
use native.Mathlib.Nat.{mul-le-mul_left}
use native.Mathlib.Omega.{arith}
use borrow.Author.Tests.{le-leb, lt-leb}
use Rattle.collapsing.proofs.room.fit.Goals as goal

pub returns-then-limit-used : goal.returns-then-limit-used
returns-then-limit-used c =
    let a = c.args in
    rw (lt-leb (a.used + a.more) a.limit (omega arith))

pub overflow_add-result : goal.overflow_add-result
overflow_add-result c = omega arith

pub overflow_mul-result : goal.overflow_mul-result
overflow_mul-result c =
    let inside : c.args.used + c.args.more ≤ c.args.limit =
    omega arith
    in
    let a = c.args in
    omega (arith, mul-le-mul_left a.stride (inside))

pub returns : goal.returns
returns c =
    let inside : c.args.used + c.args.more ≤ c.args.limit =
    omega arith
    in
    let a = c.args in
    rw (le-leb (a.used + a.more) a.limit (inside))
