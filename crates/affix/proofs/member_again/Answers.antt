use mathlib.Core.Path.{sym, ◌∙◌}
use native.Mathlib.Omega.{arith}
use borrow.Author.Tests.{eq-eqb, ne_eqb}
use lib.Dec.{eqb}
use Rattle.kit.proofs.Steps.{any_hit, any_miss, any_end}
use Rattle.handle.specs.Handle.{id_of}
use Rattle.affix.proofs.Runs.{left-handle, no_handle}
use Rattle.affix.proofs.member_again.Goals as goal

pub returns-then-id : goal.returns-then-id
returns-then-id c =
    let a = c.args in
    let i = c.loop-i.i in
    sym (any_hit (λ v. eqb a.id (id_of v)) (left-handle a.members.now i (omega arith)) (eq-eqb _ _ (c.if-id.true ∙ c.id.ensures))) ∙ c.loop-i.invariant

pub loop-i-preserved : goal.loop-i-preserved
loop-i-preserved c =
    let a = c.args in
    let i = c.loop-i.i in
    sym (any_miss (λ v. eqb a.id (id_of v)) (left-handle a.members.now i (omega arith)) (ne_eqb _ _ (λ e. c.if-id.false (e ∙ sym c.id.ensures)))) ∙ c.loop-i.invariant

pub returns : goal.returns
returns c =
    let a = c.args in
    sym (any_end (λ v. eqb a.id (id_of v)) (no_handle a.members.now c.loop-i.i (omega arith))) ∙ c.loop-i.invariant
