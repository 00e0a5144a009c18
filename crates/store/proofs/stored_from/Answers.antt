use mathlib.Core.Path.{sym, ap, ◌∙◌}
use native.Mathlib.Omega.{arith}
use borrow.Author.Tests.{eq-eqb, ne_eqb}
use Rattle.store.specs.Views.{named}
use Rattle.kit.proofs.Steps.{any_hit, any_miss, any_end}
use Rattle.store.proofs.Fields.{left-node}
use Rattle.store.specs.Graph.{node_layout}
use Rattle.kit.proofs.Laws.{left_none}
use Rattle.store.proofs.stored_from.Goals as goal

pub returns-then-at-id : goal.returns-then-at-id
returns-then-at-id c =
    let a = c.args in
    let i = c.loop-i.i in
    sym (any_hit (named a.id) (left-node a.count i a.nodes.now (omega arith)) (ap (named a.id) (sym c.at.ensures) ∙ eq-eqb _ _ c.if-at-id.true)) ∙ c.loop-i.invariant

pub loop-i-preserved : goal.loop-i-preserved
loop-i-preserved c =
    let a = c.args in
    let i = c.loop-i.i in
    sym (any_miss (named a.id) (left-node a.count i a.nodes.now (omega arith)) (ap (named a.id) (sym c.at.ensures) ∙ ne_eqb _ _ c.if-at-id.false)) ∙ c.loop-i.invariant

pub returns : goal.returns
returns c =
    let a = c.args in
    let i = c.loop-i.i in
    sym (any_end (named a.id) (left_none node_layout a.count i a.nodes.now (omega arith))) ∙ c.loop-i.invariant
