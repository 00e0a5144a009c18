use mathlib.Core.Path.{sym, ap, ◌∙◌}
use native.Mathlib.Omega.{arith}
use borrow.Author.Tests.{not-true, not-false}
use Rattle.store.proofs.Fields.{left-link}
use Rattle.formed.specs.WellFormed.{good_link}
use Rattle.store.specs.Graph.{link_layout, nodes_of}
use Rattle.kit.proofs.Steps.{all_pass, all_fail, all_end}
use Rattle.kit.proofs.Laws.{left_none}
use Rattle.formed.proofs.good_links.Goals as goal

pub returns-then-not-good_link : goal.returns-then-not-good_link
returns-then-not-good_link c =
    let a = c.args in
    let i = c.loop-i.i in
    let p = good_link (nodes_of a.c.nodes a.nodes.now) in
    let more = left-link a.c.links i a.links.now (omega arith) in
    sym (all_fail p more (ap p (sym c.at.ensures) ∙ sym c.good_link.ensures ∙ not-true _ c.if-not-good_link.true-raw)) ∙ c.loop-i.invariant

pub loop-i-preserved : goal.loop-i-preserved
loop-i-preserved c =
    let a = c.args in
    let i = c.loop-i.i in
    let p = good_link (nodes_of a.c.nodes a.nodes.now) in
    let more = left-link a.c.links i a.links.now (omega arith) in
    sym (all_pass p more (ap p (sym c.at.ensures) ∙ sym c.good_link.ensures ∙ not-false _ c.if-not-good_link.false-raw)) ∙ c.loop-i.invariant

pub returns : goal.returns
returns c =
    let a = c.args in
    let i = c.loop-i.i in
    sym (all_end (good_link (nodes_of a.c.nodes a.nodes.now)) (left_none link_layout a.c.links i a.links.now (omega arith))) ∙ c.loop-i.invariant
