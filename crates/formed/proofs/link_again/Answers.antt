use mathlib.Core.Path.{sym, ap, ◌∙◌}
use native.Mathlib.Omega.{arith}
use Rattle.store.proofs.Fields.{left-link}
use Rattle.store.specs.Graph.{ends, link_layout}
use Rattle.handle.specs.Edge.{same_ends}
use Rattle.kit.proofs.Steps.{any_hit, any_miss, any_end}
use Rattle.kit.proofs.Laws.{left_none}
use Rattle.formed.proofs.link_again.Goals as goal

pub returns-then-eq : goal.returns-then-eq
returns-then-eq c =
    let a = c.args in
    let i = c.loop-i.i in
    sym (any_hit (λ s. same_ends a.e (ends s)) (left-link a.count i a.links.now (omega arith)) (ap (λ s. same_ends a.e (ends s)) (sym c.at.ensures) ∙ ap (same_ends a.e) (sym c.ends.ensures) ∙ sym c.eq.ensures ∙ c.if-eq.true)) ∙ c.loop-i.invariant

pub loop-i-preserved : goal.loop-i-preserved
loop-i-preserved c =
    let a = c.args in
    let i = c.loop-i.i in
    sym (any_miss (λ s. same_ends a.e (ends s)) (left-link a.count i a.links.now (omega arith)) (ap (λ s. same_ends a.e (ends s)) (sym c.at.ensures) ∙ ap (same_ends a.e) (sym c.ends.ensures) ∙ sym c.eq.ensures ∙ c.if-eq.false)) ∙ c.loop-i.invariant

pub returns : goal.returns
returns c =
    let a = c.args in
    let i = c.loop-i.i in
    sym (any_end (λ s. same_ends a.e (ends s)) (left_none link_layout a.count i a.links.now (omega arith))) ∙ c.loop-i.invariant
