use borrow.Author.Tests.{eq-eqb, ne_eqb, lt-ltb, le-ltb}
use Rattle.sides.proofs.lower.Goals as goal
use Rattle.sides.proofs.lower.Goals.{then-best-eq0-via-then-best-eq0, then-best-eq0-via-else-best-eq0+then-n-best}

pub returns-then-n-above : goal.returns-then-n-above
returns-then-n-above c =
    let a = c.args in
    rw (le-ltb a.above a.n c.if-n-above.true)

pub returns-then-best-eq0 : goal.returns-then-best-eq0
returns-then-best-eq0 c =
    let a = c.args in
    rw (lt-ltb a.above a.n c.if-n-above.false)
    (elim c.then-best-eq0.branch [
      | then-best-eq0-via-then-best-eq0 w ↦ rw (eq-eqb _ _ w.if-best-eq0.true)
      | then-best-eq0-via-else-best-eq0+then-n-best w ↦ rw (ne_eqb _ _ w.if-best-eq0.false, lt-ltb _ _ w.if-n-best.true)
    ])

pub returns : goal.returns
returns c =
    let a = c.args in
    rw (lt-ltb a.above a.n c.if-n-above.false, ne_eqb _ _ c.if-best-eq0.false, c.if-n-best.false-raw)
