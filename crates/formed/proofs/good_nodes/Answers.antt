use mathlib.Core.Path.{sym, ap, ◌∙◌}
use native.Mathlib.Omega.{arith}
use borrow.Author.Tests.{not-true, not-false}
use Rattle.store.proofs.Fields.{left-node}
use Rattle.formed.specs.WellFormed.{good_node}
use Rattle.store.specs.Graph.{node_layout}
use Rattle.kit.proofs.Steps.{all_pass, all_fail, all_end}
use Rattle.kit.proofs.Laws.{left_none}
use Rattle.formed.proofs.good_nodes.Goals as goal

pub returns-then-not-good_node : goal.returns-then-not-good_node
returns-then-not-good_node c =
    let a = c.args in
    let i = c.loop-i.i in
    let p = good_node a.text.now in
    let more = left-node a.count i a.nodes.now (omega arith) in
    sym (all_fail p more (ap p (sym c.at.ensures) ∙ sym c.good_node.ensures ∙ not-true _ c.if-not-good_node.true-raw)) ∙ c.loop-i.invariant

pub loop-i-preserved : goal.loop-i-preserved
loop-i-preserved c =
    let a = c.args in
    let i = c.loop-i.i in
    let p = good_node a.text.now in
    let more = left-node a.count i a.nodes.now (omega arith) in
    sym (all_pass p more (ap p (sym c.at.ensures) ∙ sym c.good_node.ensures ∙ not-false _ c.if-not-good_node.false-raw)) ∙ c.loop-i.invariant

pub returns : goal.returns
returns c =
    let a = c.args in
    let i = c.loop-i.i in
    sym (all_end (good_node a.text.now) (left_none node_layout a.count i a.nodes.now (omega arith))) ∙ c.loop-i.invariant
