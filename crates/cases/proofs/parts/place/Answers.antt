use mathlib.Core.Path.{refl, sym, ◌∙◌}
use native.Mathlib.Omega.{arith}
use Rattle.cases.proofs.Items.{rest_more, rest_past, rest_end, rest_all}
use Rattle.cases.proofs.parts.place.Goals as goal

pub loop-i-init : goal.loop-i-init
loop-i-init c = refl

pub returns-then-shape-i : goal.returns-then-shape-i
returns-then-shape-i c =
    let a = c.args in
    rest_end a.numbers.now a.shape.now a.k c.loop-i.i c.loop-i.at c.if-shape-i.true ∙ c.loop-i.invariant

pub returns-in_default : goal.returns-in_default
returns-in_default c =
    let a = c.args in
    rest_past a.numbers.now a.shape.now a.k c.loop-i.i c.loop-i.at (omega arith) (omega arith) (sym (rw c.item_end.ensures.1 at c.item_end.ensures.2) ∙ c.in_default.is) ∙ c.loop-i.invariant

pub loop-i-preserved : goal.loop-i-preserved
loop-i-preserved c =
    let a = c.args in
    rest_more a.numbers.now a.shape.now a.k c.loop-i.i c.loop-i.at _ (omega arith) (omega arith) (sym (rw c.item_end.ensures.1 at c.item_end.ensures.2) ∙ c.in-Some.is) ∙ c.loop-i.invariant

pub returns : goal.returns
returns c =
    let a = c.args in
    rest_all a.numbers.now a.shape.now a.k c.loop-i.i c.loop-i.at (omega arith) ∙ c.loop-i.invariant
