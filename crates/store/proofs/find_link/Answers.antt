use mathlib.Core.Path.{sym, ap, ◌∙◌}
use native.Mathlib.Omega.{arith}
use Rattle.handle.specs.Edge.{edge, same_link}
use Rattle.store.specs.Views.{joins}
use Rattle.kit.proofs.Steps.{find_hit, find_miss, find_end}
use Rattle.store.proofs.Fields.{left-link}
use Rattle.store.specs.Graph.{ends, link_layout}
use Rattle.kit.proofs.Laws.{left_none}
use Rattle.store.proofs.find_link.Goals as goal

pub returns-then-same_link : goal.returns-then-same_link
returns-then-same_link c =
    let a = c.args in
    let i = c.loop-i.i in
    let e = edge a.u a.v in
    sym (find_hit (joins e) i (left-link a.count i a.links.now (omega arith)) (ap (λ r. same_link e (ends r)) (sym c.at.ensures) ∙ ap (same_link e) (sym c.ends.ensures) ∙ sym c.same_link.ensures ∙ c.if-same_link.true)) ∙ c.loop-i.invariant

pub loop-i-preserved : goal.loop-i-preserved
loop-i-preserved c =
    let a = c.args in
    let i = c.loop-i.i in
    let e = edge a.u a.v in
    sym (find_miss (joins e) i (left-link a.count i a.links.now (omega arith)) (ap (λ r. same_link e (ends r)) (sym c.at.ensures) ∙ ap (same_link e) (sym c.ends.ensures) ∙ sym c.same_link.ensures ∙ c.if-same_link.false)) ∙ c.loop-i.invariant

pub returns : goal.returns
returns c =
    let a = c.args in
    let i = c.loop-i.i in
    sym (find_end (joins (edge a.u a.v)) i (left_none link_layout a.count i a.links.now (omega arith))) ∙ c.loop-i.invariant
