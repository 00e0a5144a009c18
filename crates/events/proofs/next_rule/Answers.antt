use mathlib.Core.Path.{sym, ap, ◌∙◌}
use native.Mathlib.Omega.{arith}
use Rattle.events.proofs.Fields.{left-rule}
use Rattle.events.specs.Events.{rule_layout, keyed}
use Rattle.kit.proofs.Steps.{find_hit, find_miss, find_end}
use Rattle.kit.proofs.Laws.{left_none}
use Rattle.events.proofs.next_rule.Goals as goal

pub returns-then-same_key-clause-value : goal.returns-then-same_key-clause-value
returns-then-same_key-clause-value c =
    let a = c.args in
    let i = c.loop-i.i in
    let more = left-rule a.count i a.rules.now (omega arith) in
    sym (find_hit (keyed a.id a.len) i more (ap (keyed a.id a.len) (sym c.at-r.ensures) ∙ sym c.same_key.ensures ∙ c.if-same_key.true)) ∙ c.loop-i.invariant

pub loop-i-preserved : goal.loop-i-preserved
loop-i-preserved c =
    let a = c.args in
    let i = c.loop-i.i in
    let more = left-rule a.count i a.rules.now (omega arith) in
    sym (find_miss (keyed a.id a.len) i more (ap (keyed a.id a.len) (sym c.at-r.ensures) ∙ sym c.same_key.ensures ∙ c.if-same_key.false)) ∙ c.loop-i.invariant

pub returns-clause-value : goal.returns-clause-value
returns-clause-value c =
    let a = c.args in
    let i = c.loop-i.i in
    sym (find_end (keyed a.id a.len) i (left_none rule_layout a.count i a.rules.now (omega arith))) ∙ c.loop-i.invariant
