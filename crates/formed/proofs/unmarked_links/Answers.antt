use mathlib.Core.Path.{sym, ap, ◌∙◌}
use native.Mathlib.Omega.{arith}
use borrow.Author.Tests.{eq-eqb, ne_eqb}
use Rattle.formed.specs.WellFormed.{unmarked_link}
use Rattle.store.proofs.Fields.{left-link}
use Rattle.store.specs.Graph.{link_layout}
use Rattle.kit.proofs.Steps.{all_pass, all_fail, all_end}
use Rattle.kit.proofs.Laws.{left_none}
use Rattle.formed.proofs.unmarked_links.Goals as goal

pub returns-then-at-ne0 : goal.returns-then-at-ne0
returns-then-at-ne0 c =
    let a = c.args in
    let i = c.loop-i.i in
    let more = left-link a.count i a.links.now (omega arith) in
    sym (all_fail unmarked_link more (ap unmarked_link (sym c.at.ensures) ∙ ne_eqb _ _ c.if-at-ne0.true)) ∙ c.loop-i.invariant

pub loop-i-preserved : goal.loop-i-preserved
loop-i-preserved c =
    let a = c.args in
    let i = c.loop-i.i in
    let more = left-link a.count i a.links.now (omega arith) in
    sym (all_pass unmarked_link more (ap unmarked_link (sym c.at.ensures) ∙ eq-eqb _ _ c.if-at-ne0.false)) ∙ c.loop-i.invariant

pub returns : goal.returns
returns c =
    let a = c.args in
    let i = c.loop-i.i in
    sym (all_end unmarked_link (left_none link_layout a.count i a.links.now (omega arith))) ∙ c.loop-i.invariant
