use native.Mathlib.Omega.{arith}
use Rattle.linking.proofs.Fitting.{made, starts}
use Rattle.linking.proofs.alone_links.Goals as goal

pub split_off-requires : goal.split_off-requires
split_off-requires c = record { count_in_bounds = omega arith; id_le_max_id = (omega (arith, c.id.ensures), c.requires.m_bound.1 c.if-long.true) }

pub returns-then-long : goal.returns-then-long
returns-then-long c = rw (c.if-long.true, ← c.id.ensures) c.split_off.ensures

pub returns : goal.returns
returns c =
    let a = c.args in
    rw c.if-long.false (made (starts a.count a.links.now (omega arith)))
