use Prim.Native.Nat.{◌+◌}
use mathlib.Core.Path.{sym, ap, ◌∙◌}
use lib.ListN.{drop}
use Rattle.store.specs.declared.Node.{Node}
use native.Mathlib.Omega.{arith}
use Rattle.store.proofs.Fields.{left-node}
use Rattle.store.specs.Views.{named, stored}
use Rattle.store.specs.Graph.{node_layout, nodes_of}
use Rattle.kit.proofs.Steps.{distinct-pass, distinct_fail, distinct_end}
use Rattle.kit.proofs.Laws.{left_none}
use Rattle.formed.proofs.ids_once.Goals as goal

pub returns-then-stored_from : goal.returns-then-stored_from
returns-then-stored_from c =
    let a = c.args in
    let i = c.loop-i.i in
    sym (distinct_fail (λ r s. named r.id s) (left-node a.count i a.nodes.now (omega arith)) (ap (λ (r : Node). stored r.id (drop (i + 1) (nodes_of a.count a.nodes.now))) (sym c.at.ensures) ∙ sym c.stored_from.ensures ∙ c.if-stored_from.true)) ∙ c.loop-i.invariant

pub loop-i-preserved : goal.loop-i-preserved
loop-i-preserved c =
    let a = c.args in
    let i = c.loop-i.i in
    sym (distinct-pass (λ r s. named r.id s) (left-node a.count i a.nodes.now (omega arith)) (ap (λ (r : Node). stored r.id (drop (i + 1) (nodes_of a.count a.nodes.now))) (sym c.at.ensures) ∙ sym c.stored_from.ensures ∙ c.if-stored_from.false)) ∙ c.loop-i.invariant

pub returns : goal.returns
returns c =
    let a = c.args in
    let i = c.loop-i.i in
    sym (distinct_end (λ r s. named r.id s) (left_none node_layout a.count i a.nodes.now (omega arith))) ∙ c.loop-i.invariant
