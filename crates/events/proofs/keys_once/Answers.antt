use mathlib.Core.Path.{sym, ap, ◌∙◌}
use native.Mathlib.Omega.{arith}
use Rattle.events.proofs.Fields.{left-rule}
use Rattle.events.specs.declared.Rule.{Rule}
use Rattle.events.specs.Events.{rule_layout, rules_of, keyed}
use Rattle.kit.specs.Loops.{any}
use lib.ListN.{drop}
use Prim.Native.Nat.{◌+◌}
use Rattle.kit.proofs.Steps.{distinct-pass, distinct_fail, distinct_end}
use Rattle.kit.proofs.Laws.{left_none}
use Rattle.events.proofs.keys_once.Goals as goal

pub returns-then-key_again : goal.returns-then-key_again
returns-then-key_again c =
    let a = c.args in
    let i = c.loop-i.i in
    let more = left-rule a.count i a.rules.now (omega arith) in
    sym (distinct_fail (λ r s. keyed r.id r.len s) more (ap (λ (r : Rule). any (keyed r.id r.len) (drop (i + 1) (rules_of a.count a.rules.now))) (sym c.at-r.ensures) ∙ sym c.key_again.ensures ∙ c.if-key_again.true)) ∙ c.loop-i.invariant

pub loop-i-preserved : goal.loop-i-preserved
loop-i-preserved c =
    let a = c.args in
    let i = c.loop-i.i in
    let more = left-rule a.count i a.rules.now (omega arith) in
    sym (distinct-pass (λ r s. keyed r.id r.len s) more (ap (λ (r : Rule). any (keyed r.id r.len) (drop (i + 1) (rules_of a.count a.rules.now))) (sym c.at-r.ensures) ∙ sym c.key_again.ensures ∙ c.if-key_again.false)) ∙ c.loop-i.invariant

pub returns : goal.returns
returns c =
    let a = c.args in
    let i = c.loop-i.i in
    sym (distinct_end (λ r s. keyed r.id r.len s) (left_none rule_layout a.count i a.rules.now (omega arith))) ∙ c.loop-i.invariant
