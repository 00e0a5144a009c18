use Prim.Native.Nat.{◌*◌, ◌+◌}
use mathlib.Core.Path.{sym, ap, ◌∙◌}
use Rattle.events.specs.declared.Step.{Step}
use native.Mathlib.Omega.{arith}
use borrow.Author.Tests.{eq-eqb, ne_eqb}
use lib.Dec.{eqb}
use lib.ListN.{get_or}
use Rattle.kit.proofs.Steps.{any_hit, any_miss, any_end}
use Rattle.handle.specs.Handle.{id_of}
use Rattle.store.specs.Graph.{handle}
use Rattle.verdict.proofs.Protected.{left-id, no_id}
use Rattle.verdict.proofs.repeats.in_walk.Goals as goal

pub returns-then-id : goal.returns-then-id
returns-then-id c =
    let a = c.args in
    let more = left-id a.total a.steps.now a.first a.count c.requires.1 c.loop-j.j (omega arith) in
    let node = id_of (handle (get_or a.steps.now (2 * (a.first + c.loop-j.j)) 0)) in
    sym (any_hit (eqb a.id) more (eq-eqb a.id node (c.if-id.true ∙ c.id.ensures ∙ ap (λ (s : Step). id_of s.node) c.at.ensures))) ∙ c.loop-j.invariant

pub loop-j-preserved : goal.loop-j-preserved
loop-j-preserved c =
    let a = c.args in
    let more = left-id a.total a.steps.now a.first a.count c.requires.1 c.loop-j.j (omega arith) in
    let node = id_of (handle (get_or a.steps.now (2 * (a.first + c.loop-j.j)) 0)) in
    sym (any_miss (eqb a.id) more (ne_eqb a.id node (λ e. c.if-id.false (e ∙ sym (c.id.ensures ∙ ap (λ (s : Step). id_of s.node) c.at.ensures))))) ∙ c.loop-j.invariant

pub returns : goal.returns
returns c =
    let a = c.args in
    sym (any_end (eqb a.id) (no_id a.total a.steps.now a.first a.count c.requires.1 c.loop-j.j (omega arith))) ∙ c.loop-j.invariant
