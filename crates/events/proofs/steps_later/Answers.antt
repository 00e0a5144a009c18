use Prim.Native.Nat.{ℕ}
use mathlib.Core.Path.{◌≡◌, sym, ap, ◌∙◌}
use mathlib.Core.Bool.{Bool, not}
use mathlib.Core.List.{List}
use native.Mathlib.Omega.{arith}
use Rattle.kit.specs.Loops.{any}
use Rattle.kit.proofs.Laws.{left_none}
use Rattle.kit.proofs.Steps.{all_pass, all_fail, all_end}
use Rattle.handle.specs.Handle.{id_of}
use Rattle.events.specs.Events.{rules_of, step_layout, keyed}
use Rattle.events.specs.declared.Rule.{Rule}
use Rattle.events.specs.declared.Step.{Step}
use Rattle.events.proofs.Fields.{step_at, left_step}
use Rattle.events.proofs.steps_later.Goals as goal

-- the test of one step, as the code makes it
abbrev is_later : List Rule → Step → Bool
is_later met s = not (any (keyed (id_of s.node) s.len) met)

pub returns-then-key_met : goal.returns-then-key_met
returns-then-key_met c =
    let said : is_later (rules_of c.args.met c.args.rules.now) (step_at c.args.steps.now c.loop-j.j) ≡ not c.key_met.result =
    let a = c.args in
    ap not (sym (c.key_met.ensures ∙ ap (λ (j : ℕ). any (keyed j c.at-s.result.len) (rules_of a.met a.rules.now)) c.id.ensures ∙ ap (λ (s : Step). any (keyed (id_of s.node) s.len) (rules_of a.met a.rules.now)) c.at-s.ensures))
    in
    let a = c.args in
    let more = left_step a.end c.loop-j.j a.steps.now (omega arith) in
    sym (all_fail (is_later (rules_of a.met a.rules.now)) more (said ∙ ap not c.if-key_met.true)) ∙ c.loop-j.invariant

pub loop-j-preserved : goal.loop-j-preserved
loop-j-preserved c =
    let said : is_later (rules_of c.args.met c.args.rules.now) (step_at c.args.steps.now c.loop-j.j) ≡ not c.key_met.result =
    let a = c.args in
    ap not (sym (c.key_met.ensures ∙ ap (λ (j : ℕ). any (keyed j c.at-s.result.len) (rules_of a.met a.rules.now)) c.id.ensures ∙ ap (λ (s : Step). any (keyed (id_of s.node) s.len) (rules_of a.met a.rules.now)) c.at-s.ensures))
    in
    let a = c.args in
    let more = left_step a.end c.loop-j.j a.steps.now (omega arith) in
    sym (all_pass (is_later (rules_of a.met a.rules.now)) more (said ∙ ap not c.if-key_met.false)) ∙ c.loop-j.invariant

pub returns : goal.returns
returns c =
    let a = c.args in
    sym (all_end (is_later (rules_of a.met a.rules.now)) (left_none step_layout a.end c.loop-j.j a.steps.now (omega arith))) ∙ c.loop-j.invariant
