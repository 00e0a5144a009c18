use native.Mathlib.Omega.{arith}
use Rattle.expansion.proofs.Writing.{writing, first_next, rule_leaves, written}
use Rattle.expansion.proofs.write_rules.Goals as goal

pub loop-i-init : goal.loop-i-init
loop-i-init c =
    let a = c.args in
    writing a.count a.rules.now a.lens.now a.out.now

pub put-requires : goal.put-requires
put-requires c = omega (arith, c.loop-i.invariant.size)

pub overflow_add-first : goal.overflow_add-first
overflow_add-first c =
    let a = c.args in
    omega (arith, c.requires.3, first_next a.count a.rules.now a.lens.now a.out.now c.loop-i.out c.loop-i.first c.loop-i.i (omega arith) c.requires.1 c.loop-i.invariant)

pub loop-i-preserved : goal.loop-i-preserved
loop-i-preserved c =
    let a = c.args in rule_leaves a.count a.rules.now a.lens.now a.out.now c.loop-i.out c.loop-i.first c.loop-i.i (omega arith) c.requires.1 c.loop-i.invariant _ (rw c.at.ensures at c.put.ensures)

pub returns : goal.returns
returns c =
    let a = c.args in
    written a.count a.rules.now a.lens.now a.out.now c.loop-i.out c.loop-i.first c.loop-i.i (omega arith) c.loop-i.invariant
