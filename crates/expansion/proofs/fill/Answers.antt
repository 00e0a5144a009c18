use Prim.Native.Nat.{◌-◌}
use native.Mathlib.Omega.{arith}
use Rattle.expansion.proofs.Filled.{filling, filled-size, fill_asks, fill_leaves, filled}
use Rattle.expansion.proofs.fill.Goals as goal

pub loop-i-init : goal.loop-i-init
loop-i-init c =
    let a = c.args in
    filling a.rules.now a.steps.now a.c a.table.now a.out.now a.d

pub expand_event-requires : goal.expand_event-requires
expand_event-requires c =
    let a = c.args in
    fill_asks a.rules.now a.steps.now a.c a.table.now a.out.now a.d c.requires c.loop-i.out c.loop-i.i (c.loop-i.i - 1) c.loop-i.invariant (omega arith)

pub loop-i-preserved : goal.loop-i-preserved
loop-i-preserved c =
    let a = c.args in
    fill_leaves a.rules.now a.steps.now a.c a.table.now a.out.now a.d c.requires c.loop-i.out c.loop-i.i (c.loop-i.i - 1) c.loop-i.invariant (omega arith) _ c.expand_event.ensures

pub shape_of-out : goal.shape_of-out
shape_of-out c =
    let a = c.args in
    filled-size a.rules.now a.steps.now a.c a.table.now a.out.now a.d c.loop-i.out c.loop-i.i c.loop-i.invariant

pub returns : goal.returns
returns c =
    let a = c.args in
    filled a.rules.now a.steps.now a.c a.table.now a.out.now a.d c.requires c.loop-i.out c.loop-i.i (omega arith) c.loop-i.invariant
