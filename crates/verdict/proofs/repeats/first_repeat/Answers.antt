use mathlib.Core.List.{[]}
use mathlib.Core.Path.{refl, sym, ◌∙◌}
use native.Mathlib.Omega.{arith}
use borrow.Author.Tests.{not-true, not-false}
use lib.ListN.{get_or}
use lib.Seq.{length-take-le}
use Rattle.store.specs.Graph.{graph_of}
use Rattle.events.specs.Events.{list_of}
use Rattle.verdict.specs.Conditions.{protected_ids, no_repeat}
use Rattle.verdict.proofs.Protected.{seen_before, node_repeats, node-fresh, no_node-left}
use Rattle.verdict.proofs.repeats.first_repeat.Goals as goal

pub loop-i-init : goal.loop-i-init
loop-i-init c = refl

pub slice_bounds-repeats-end : goal.slice_bounds-repeats-end
slice_bounds-repeats-end c = sym (length-take-le c.loop-i.i c.args.protected.now (omega arith))

pub repeats-requires : goal.repeats-requires
repeats-requires c = c.requires

pub returns-then-repeats : goal.returns-then-repeats
returns-then-repeats c =
    let a = c.args in
    let old = graph_of a.oldnodes.now [] [] a.c in
    let t = list_of a.rules.now a.steps.now a.u in
    let p = a.protected.now in
    let e = not-true (no_repeat (seen_before old t p c.loop-i.i) (protected_ids old t (get_or p c.loop-i.i 0))) (sym c.repeats.ensures ∙ c.if-repeats.true) in
    sym (node_repeats old t p c.loop-i.i (omega arith) e) ∙ c.loop-i.invariant

pub loop-i-preserved : goal.loop-i-preserved
loop-i-preserved c =
    let a = c.args in
    let old = graph_of a.oldnodes.now [] [] a.c in
    let t = list_of a.rules.now a.steps.now a.u in
    let p = a.protected.now in
    let e = not-false (no_repeat (seen_before old t p c.loop-i.i) (protected_ids old t (get_or p c.loop-i.i 0))) (sym c.repeats.ensures ∙ c.if-repeats.false) in
    sym (node-fresh old t p c.loop-i.i (omega arith) e) ∙ c.loop-i.invariant

pub returns : goal.returns
returns c =
    let a = c.args in
    let old = graph_of a.oldnodes.now [] [] a.c in
    let t = list_of a.rules.now a.steps.now a.u in
    sym (no_node-left old t a.protected.now c.loop-i.i (omega arith)) ∙ c.loop-i.invariant
