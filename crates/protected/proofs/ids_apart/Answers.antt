use mathlib.Core.Path.{sym, ◌∙◌}
use native.Mathlib.Omega.{arith}
use lib.Dec.{eqb}
use lib.ListN.{drop_of_length-le}
use Rattle.kit.proofs.Steps.{left_at, distinct-pass, distinct_fail, distinct_end}
use Rattle.protected.proofs.ids_apart.Goals as goal

pub returns-then-id_from : goal.returns-then-id_from
returns-then-id_from c =
    let a = c.args in
    sym (distinct_fail eqb (left_at a.ids.now c.loop-i.i 0 (omega arith)) (sym c.id_from.ensures ∙ c.if-id_from.true)) ∙ c.loop-i.invariant

pub loop-i-preserved : goal.loop-i-preserved
loop-i-preserved c =
    let a = c.args in
    sym (distinct-pass eqb (left_at a.ids.now c.loop-i.i 0 (omega arith)) (sym c.id_from.ensures ∙ c.if-id_from.false)) ∙ c.loop-i.invariant

pub returns : goal.returns
returns c =
    let a = c.args in
    sym (distinct_end eqb (drop_of_length-le a.ids.now {i = c.loop-i.i} (omega arith))) ∙ c.loop-i.invariant
