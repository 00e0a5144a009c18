use mathlib.Core.Path.{sym, ap, ◌∙◌}
use native.Mathlib.Omega.{arith}
use borrow.Author.Tests.{eq-eqb, ne_eqb}
use Rattle.store.specs.Views.{unmarked_node}
use Rattle.store.proofs.Fields.{left-node}
use Rattle.store.specs.Graph.{node_layout}
use Rattle.kit.proofs.Steps.{all_pass, all_fail, all_end}
use Rattle.kit.proofs.Laws.{left_none}
use Rattle.formed.proofs.unmarked_nodes.Goals as goal

pub returns-then-at-ne0 : goal.returns-then-at-ne0
returns-then-at-ne0 c =
    let a = c.args in
    let i = c.loop-i.i in
    let more = left-node a.count i a.nodes.now (omega arith) in
    sym (all_fail unmarked_node more (ap unmarked_node (sym c.at.ensures) ∙ ne_eqb _ _ c.if-at-ne0.true)) ∙ c.loop-i.invariant

pub loop-i-preserved : goal.loop-i-preserved
loop-i-preserved c =
    let a = c.args in
    let i = c.loop-i.i in
    let more = left-node a.count i a.nodes.now (omega arith) in
    sym (all_pass unmarked_node more (ap unmarked_node (sym c.at.ensures) ∙ eq-eqb _ _ c.if-at-ne0.false)) ∙ c.loop-i.invariant

pub returns : goal.returns
returns c =
    let a = c.args in
    let i = c.loop-i.i in
    sym (all_end unmarked_node (left_none node_layout a.count i a.nodes.now (omega arith))) ∙ c.loop-i.invariant
