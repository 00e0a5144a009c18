use mathlib.Core.List.{[]}
use Prim.Native.Nat.{ℕ, ◌+◌, ◌≤◌, ◌<◌}
use mathlib.Core.Path.{◌≡◌, refl, sym, ap, ◌∙◌}
use native.Mathlib.Omega.{arith}
use Rattle.store.specs.Graph.{graph_of}
use Rattle.formed.proofs.Says.{formed_room}
use Rattle.affix.proofs.LookedUp.{formed_readable}
use Rattle.events.specs.Events.{rule, steps_of}
use Rattle.events.specs.declared.Rule.{Rule}
use Rattle.events.proofs.Fields.{rule_at, step_at, rule_is}
use Rattle.events.proofs.Says.{RuleRoom, table-room}
use Rattle.events.proofs.Order.{table-inside}
use Rattle.scanning.specs.declared.Verdict.{Verdict}
use Rattle.scanning.specs.Rules.{step_fault}
use Rattle.scanning.proofs.RuleTurns.{step_text_lem, step_before, steps_all, steps-done, step-next, step_stops, key_number, rules-done, rule-empty, rule-step, rule_key, rule-next}
use Rattle.scanning.proofs.scan_rules.Goals as goal

pub scan-init : goal.scan-init
scan-init c = (omega arith, refl)

pub at-r-requires : goal.at-r-requires
at-r-requires c =
    let room = table-room c.args.rules.now c.args.steps.now c.args.u c.requires.d_value.1 in
    omega (arith, room)

pub loop-j-init : goal.loop-j-init
loop-j-init c =
    let table : let r = rule_at c.args.rules.now c.scan.i in RuleRoom c.args.rules.now c.args.steps.now c.args.u × (r.first + r.steps ≤ c.args.u.steps) =
    let a = c.args in
    (table-room a.rules.now a.steps.now a.u c.requires.d_value.1, table-inside a.rules.now a.steps.now a.u c.requires.d_value.1 c.scan.i (omega arith))
    in
    let a = c.args in
    rw c.at-r.ensures (steps_all (graph_of a.nodes.now a.text.now a.links.now a.d) a.steps.now c.scan.i a.u.steps (rule_at a.rules.now c.scan.i) (table).1)

pub overflow_add-first : goal.overflow_add-first
overflow_add-first c =
    let table : let r = rule_at c.args.rules.now c.scan.i in RuleRoom c.args.rules.now c.args.steps.now c.args.u × (r.first + r.steps ≤ c.args.u.steps) =
    let a = c.args in
    (table-room a.rules.now a.steps.now a.u c.requires.d_value.1, table-inside a.rules.now a.steps.now a.u c.requires.d_value.1 c.scan.i (omega arith))
    in
    let a = c.args in
    let old = graph_of a.old_nodes.now a.old_text.now [] a.c in
    let new = graph_of a.nodes.now a.text.now a.links.now a.d in
    let r = rule_at a.rules.now c.scan.i in
    omega (arith, (table).0, (table).1, ap (λ (x : Rule). x.first) c.at-r.ensures, ap (λ (x : Rule). x.steps) c.at-r.ensures)

pub step_fault-n-requires : goal.step_fault-n-requires
step_fault-n-requires c =
    let table : let r = rule_at c.args.rules.now c.scan.i in RuleRoom c.args.rules.now c.args.steps.now c.args.u × (r.first + r.steps ≤ c.args.u.steps) =
    let a = c.args in
    (table-room a.rules.now a.steps.now a.u c.requires.d_value.1, table-inside a.rules.now a.steps.now a.u c.requires.d_value.1 c.scan.i (omega arith))
    in
    let a = c.args in
    let old = graph_of a.old_nodes.now a.old_text.now [] a.c in
    let new = graph_of a.nodes.now a.text.now a.links.now a.d in
    let r = rule_at a.rules.now c.scan.i in
    let g = formed_room a.nodes.now a.text.now a.links.now a.d c.requires.d_value.0 in
    record { nodes_in_bounds = (g.node_room, g.link_room); at_in_bounds = (omega (arith, (table).0, (table).1, ap (λ (x : Rule). x.first) c.at-r.ensures, ap (λ (x : Rule). x.steps) c.at-r.ensures), omega arith) }

pub loop-j-preserved : goal.loop-j-preserved
loop-j-preserved c =
    let numbered : let k = c.at-r.result.first + c.loop-j.j in c.step_fault-n.result ≡ (step_fault (graph_of c.args.nodes.now c.args.text.now c.args.links.now c.args.d) 0 0 (step_before c.args.steps.now k c.loop-j.j) (step_at c.args.steps.now k)).number =
    let a = c.args in
    let k : ℕ = c.at-r.result.first + c.loop-j.j in
    c.step_fault-n.ensures
    ∙ ap (λ (v : Verdict). v.number) (step_text_lem a.nodes.now a.text.now a.links.now a.d (step_before a.steps.now k c.loop-j.j) (step_at a.steps.now k))
    in
    let a = c.args in
    let old = graph_of a.old_nodes.now a.old_text.now [] a.c in
    let new = graph_of a.nodes.now a.text.now a.links.now a.d in
    let r = rule_at a.rules.now c.scan.i in
    rw c.at-r.ensures (sym (step-next new a.steps.now c.scan.i r.first r.steps c.loop-j.j (omega (arith, ap (λ (x : Rule). x.steps) c.at-r.ensures)) c.step_fault-n.result (rw c.at-r.ensures at numbered) c.if-n-ne0.false) ∙ (rw c.at-r.ensures at c.loop-j.invariant))

pub key_fault-n-requires : goal.key_fault-n-requires
key_fault-n-requires c =
    let table : let r = rule_at c.args.rules.now c.scan.i in RuleRoom c.args.rules.now c.args.steps.now c.args.u × (r.first + r.steps ≤ c.args.u.steps) =
    let a = c.args in
    (table-room a.rules.now a.steps.now a.u c.requires.d_value.1, table-inside a.rules.now a.steps.now a.u c.requires.d_value.1 c.scan.i (omega arith))
    in
    let a = c.args in
    let old = graph_of a.old_nodes.now a.old_text.now [] a.c in
    let new = graph_of a.nodes.now a.text.now a.links.now a.d in
    let r = rule_at a.rules.now c.scan.i in
    let t = (table).0 in
    record { readable = (c.requires.readable, formed_readable a.nodes.now a.text.now a.links.now a.d c.requires.d_value.0); i_lt_rules = (omega arith, t.rule_room, t.step_room); i_bound = (table).1 }

pub overflow_add-i : goal.overflow_add-i
overflow_add-i c =
    let table : let r = rule_at c.args.rules.now c.scan.i in RuleRoom c.args.rules.now c.args.steps.now c.args.u × (r.first + r.steps ≤ c.args.u.steps) =
    let a = c.args in
    (table-room a.rules.now a.steps.now a.u c.requires.d_value.1, table-inside a.rules.now a.steps.now a.u c.requires.d_value.1 c.scan.i (omega arith))
    in
    omega (arith, (table).0)

pub scan-preserved : goal.scan-preserved
scan-preserved c =
    let a = c.args in
    let old = graph_of a.old_nodes.now a.old_text.now [] a.c in
    let new = graph_of a.nodes.now a.text.now a.links.now a.d in
    let r = rule_at a.rules.now c.scan.i in
    let h : c.scan.i < a.u.rules = omega arith in
    (omega arith, sym (rule-next old new (steps_of a.u.steps a.steps.now) a.rules.now a.u.rules c.scan.i h (rw c.at-r.ensures at c.if-walk-eq0.false) (sym (rw c.at-r.ensures at c.loop-j.invariant) ∙ steps-done new a.steps.now c.scan.i r.first r.steps c.loop-j.j (omega (arith, ap (λ (x : Rule). x.steps) c.at-r.ensures))) c.key_fault-n.result (c.key_fault-n.ensures ∙ ap (key_number old new (steps_of a.u.steps a.steps.now)) (rule_is a.u.rules c.scan.i a.rules.now h (rule 0 0 0 0))) c.if-n-ne0-2.false) ∙ c.scan.invariant.1)

pub returns-then-i-count : goal.returns-then-i-count
returns-then-i-count c =
    let a = c.args in
    let old = graph_of a.old_nodes.now a.old_text.now [] a.c in
    let new = graph_of a.nodes.now a.text.now a.links.now a.d in
    c.fault.ensures ∙ sym (rules-done old new (steps_of a.u.steps a.steps.now) a.rules.now a.u.rules c.scan.i (omega arith)) ∙ c.scan.invariant.1

pub returns-then-walk-eq0 : goal.returns-then-walk-eq0
returns-then-walk-eq0 c =
    let a = c.args in
    let old = graph_of a.old_nodes.now a.old_text.now [] a.c in
    let new = graph_of a.nodes.now a.text.now a.links.now a.d in
    c.fault-then-walk-eq0.ensures ∙ sym (rule-empty old new (steps_of a.u.steps a.steps.now) a.rules.now a.u.rules c.scan.i (omega arith) (rw c.at-r.ensures at c.if-walk-eq0.true)) ∙ c.scan.invariant.1

pub returns-then-n-ne0 : goal.returns-then-n-ne0
returns-then-n-ne0 c =
    let numbered : let k = c.at-r.result.first + c.loop-j.j in c.step_fault-n.result ≡ (step_fault (graph_of c.args.nodes.now c.args.text.now c.args.links.now c.args.d) 0 0 (step_before c.args.steps.now k c.loop-j.j) (step_at c.args.steps.now k)).number =
    let a = c.args in
    let k : ℕ = c.at-r.result.first + c.loop-j.j in
    c.step_fault-n.ensures
    ∙ ap (λ (v : Verdict). v.number) (step_text_lem a.nodes.now a.text.now a.links.now a.d (step_before a.steps.now k c.loop-j.j) (step_at a.steps.now k))
    in
    let a = c.args in
    let old = graph_of a.old_nodes.now a.old_text.now [] a.c in
    let new = graph_of a.nodes.now a.text.now a.links.now a.d in
    let r = rule_at a.rules.now c.scan.i in
    c.fault-then-n-ne0.ensures ∙ sym (rule-step old new (steps_of a.u.steps a.steps.now) a.rules.now a.u.rules c.scan.i (omega arith) (rw c.at-r.ensures at c.if-walk-eq0.false) c.step_fault-n.result c.loop-j.j (sym (rw c.at-r.ensures at c.loop-j.invariant) ∙ step_stops new a.steps.now c.scan.i r.first r.steps c.loop-j.j (omega (arith, ap (λ (x : Rule). x.steps) c.at-r.ensures)) c.step_fault-n.result (rw c.at-r.ensures at numbered) c.if-n-ne0.true) c.if-n-ne0.true) ∙ c.scan.invariant.1

pub returns-then-n-ne0-2 : goal.returns-then-n-ne0-2
returns-then-n-ne0-2 c =
    let a = c.args in
    let old = graph_of a.old_nodes.now a.old_text.now [] a.c in
    let new = graph_of a.nodes.now a.text.now a.links.now a.d in
    let r = rule_at a.rules.now c.scan.i in
    let h : c.scan.i < a.u.rules = omega arith in
    c.fault-then-n-ne0-2.ensures ∙ sym (rule_key old new (steps_of a.u.steps a.steps.now) a.rules.now a.u.rules c.scan.i h (rw c.at-r.ensures at c.if-walk-eq0.false) (sym (rw c.at-r.ensures at c.loop-j.invariant) ∙ steps-done new a.steps.now c.scan.i r.first r.steps c.loop-j.j (omega (arith, ap (λ (x : Rule). x.steps) c.at-r.ensures))) c.key_fault-n.result (c.key_fault-n.ensures ∙ ap (key_number old new (steps_of a.u.steps a.steps.now)) (rule_is a.u.rules c.scan.i a.rules.now h (rule 0 0 0 0))) c.if-n-ne0-2.true) ∙ c.scan.invariant.1
