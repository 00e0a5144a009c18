use mathlib.Core.Path.{sym, ap, ◌∙◌}
use native.Mathlib.Omega.{arith}
use borrow.Author.Tests.{not-true, not-false}
use lib.ListN.{get_or}
use Rattle.kit.proofs.Steps.{all_pass, all_fail, all_end}
use Rattle.store.specs.Graph.{handle}
use Rattle.sides.specs.Sides.{bare, same_left}
use Rattle.affix.proofs.Runs.{left-handle, no_handle}
use Rattle.collapsing.specs.Making.{same_lefts}
use Rattle.collapsing.proofs.number.same_lefts.Goals as goal

pub loop-i-init : goal.loop-i-init
loop-i-init c =
    let a = c.args in
    sym (ap (same_lefts (bare a.nodes.now a.links.now a.c)) (left-handle a.members.now 0 (omega arith)))

pub returns-then-not-same_left : goal.returns-then-not-same_left
returns-then-not-same_left c =
    let a = c.args in
    let g = bare a.nodes.now a.links.now a.c in
    sym (all_fail (same_left g (handle (get_or a.members.now 0 0))) (left-handle a.members.now c.loop-i.i (omega arith)) (sym c.same_left.ensures ∙ not-true _ c.if-not-same_left.true-raw)) ∙ c.loop-i.invariant

pub loop-i-preserved : goal.loop-i-preserved
loop-i-preserved c =
    let a = c.args in
    let g = bare a.nodes.now a.links.now a.c in
    sym (all_pass (same_left g (handle (get_or a.members.now 0 0))) (left-handle a.members.now c.loop-i.i (omega arith)) (sym c.same_left.ensures ∙ not-false _ c.if-not-same_left.false-raw)) ∙ c.loop-i.invariant

pub returns : goal.returns
returns c =
    let a = c.args in
    let g = bare a.nodes.now a.links.now a.c in
    sym (all_end (same_left g (handle (get_or a.members.now 0 0))) (no_handle a.members.now c.loop-i.i (omega arith))) ∙ c.loop-i.invariant
