use Prim.Native.Nat.{ℕ, ◌+◌}
use mathlib.Core.Bool.{Bool}
use mathlib.Core.Path.{sym, ap, ◌∙◌}
use native.Mathlib.Omega.{arith}
use lib.Dec.{eqb}
use lib.ListN.{drop}
use Rattle.kit.specs.Loops.{any}
use Rattle.kit.proofs.Steps.{distinct-pass, distinct_fail, distinct_end}
use Rattle.handle.specs.Handle.{id_of}
use Rattle.handle.specs.declared.Handle.{Handle}
use Rattle.affix.specs.Prefix.{handles_of}
use Rattle.affix.proofs.Runs.{left-handle, no_handle}
use Rattle.affix.proofs.members_once.Goals as goal

pub returns-then-member_again : goal.returns-then-member_again
returns-then-member_again c =
    let a = c.args in
    let i = c.loop-i.i in
    let again : ℕ → Bool = λ k. any (λ v. eqb k (id_of v)) (drop (i + 1) (handles_of a.members.now)) in
    sym (distinct_fail (λ (u v : Handle). eqb (id_of u) (id_of v)) (left-handle a.members.now i (omega arith)) (ap again (sym c.id.ensures) ∙ sym c.member_again.ensures ∙ c.if-member_again.true)) ∙ c.loop-i.invariant

pub loop-i-preserved : goal.loop-i-preserved
loop-i-preserved c =
    let a = c.args in
    let i = c.loop-i.i in
    let again : ℕ → Bool = λ k. any (λ v. eqb k (id_of v)) (drop (i + 1) (handles_of a.members.now)) in
    sym (distinct-pass (λ (u v : Handle). eqb (id_of u) (id_of v)) (left-handle a.members.now i (omega arith)) (ap again (sym c.id.ensures) ∙ sym c.member_again.ensures ∙ c.if-member_again.false)) ∙ c.loop-i.invariant

pub returns : goal.returns
returns c =
    let a = c.args in
    sym (distinct_end (λ (u v : Handle). eqb (id_of u) (id_of v)) (no_handle a.members.now c.loop-i.i (omega arith))) ∙ c.loop-i.invariant
