use Prim.Native.Nat.{◌-◌}
use mathlib.Core.Path.{refl, ◌∙◌}
use native.Mathlib.Omega.{arith}
use lib.ListN.{length-set}
use Rattle.events.proofs.Order.{table-inside}
use Rattle.events.proofs.Says.{table-room}
use Rattle.expansion.proofs.Lengths.{measuring, measure_asks, measure_leaves, measured}
use Rattle.expansion.proofs.measure.Goals as goal

pub loop-i-init : goal.loop-i-init
loop-i-init c =
    let a = c.args in
    (measuring a.rules.now a.steps.now a.c a.lens.now c.requires.1, table-room a.rules.now a.steps.now a.c c.requires.0, refl)

pub at-r-requires : goal.at-r-requires
at-r-requires c = omega (arith, c.loop-i.invariant.1.rule_room)

pub walk_len-m-requires : goal.walk_len-m-requires
walk_len-m-requires c =
    let a = c.args in
    let j = c.loop-i.i - 1 in rw c.at-r.ensures (
      measure_asks a.rules.now a.steps.now a.c c.loop-i.lens c.loop-i.total c.loop-i.i j c.loop-i.invariant.0 (omega arith) c.loop-i.invariant.1.rule_room c.loop-i.invariant.1.step_room,
      table-inside a.rules.now a.steps.now a.c c.requires.0 j (omega arith),
    )

pub overflow_add-total : goal.overflow_add-total
overflow_add-total c = omega (arith, c.walk_len-m.ensures, c.loop-i.invariant.0.sum)

pub loop-i-preserved : goal.loop-i-preserved
loop-i-preserved c =
    let a = c.args in
    let j = c.loop-i.i - 1 in
    let x = c.walk_len-m.result in (
      rw c.capped-total.ensures (measure_leaves a.rules.now a.steps.now a.c c.loop-i.lens c.loop-i.total c.loop-i.i j c.loop-i.invariant.0 (omega arith) x (rw c.at-r.ensures at c.walk_len-m.ensures)),
      c.loop-i.invariant.1,
      length-set c.loop-i.lens j x ∙ c.loop-i.invariant.2,
    )

pub returns : goal.returns
returns c =
    let a = c.args in
    measured a.rules.now a.steps.now a.c c.loop-i.lens c.loop-i.total c.loop-i.i c.loop-i-test.false c.loop-i.invariant.0
