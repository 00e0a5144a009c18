use native.Mathlib.Omega.{arith}
use Rattle.keeping.proofs.NodesKept.{lower_none, lower_some, lower_stays}
use Rattle.keeping.proofs.lower_fault.Goals as goal

pub returns-then-v-eq0 : goal.returns-then-v-eq0
returns-then-v-eq0 c =
    let a = c.args in
    lower_none a.v a.id c.if-v-eq0.true

pub returns-then-id-v : goal.returns-then-id-v
returns-then-id-v c =
    let a = c.args in
    lower_some a.v a.id c.if-v-eq0.false c.if-id-v.true

pub returns : goal.returns
returns c =
    let a = c.args in
    lower_stays a.v a.id c.if-v-eq0.false (omega arith)
