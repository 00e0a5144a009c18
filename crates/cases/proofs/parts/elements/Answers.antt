use Prim.Native.Nat.{◌+◌, ◌-◌}
use lib.ListN.{get_or}
use native.Mathlib.Omega.{arith}
use Rattle.cases.proofs.Items.{elements_none, elements_left, elements_all}
use Rattle.cases.proofs.parts.elements.Goals as goal

pub returns-then-numbers-at : goal.returns-then-numbers-at
returns-then-numbers-at c = let a = c.args in elements_none a.numbers.now a.at c.if-numbers-at.true

pub returns-then-numbers-from : goal.returns-then-numbers-from
returns-then-numbers-from c =
    let a = c.args in
    elements_left a.numbers.now a.at (omega arith)

pub returns : goal.returns
returns c =
    let a = c.args in
    let xs = a.numbers.now in
    elements_all xs a.at (a.at + 1 + get_or xs a.at 0 - (a.at + 1)) (omega arith)
