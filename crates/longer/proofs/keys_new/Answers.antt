use Prim.Native.Nat.{ℕ}
use mathlib.Core.Path.{sym, ap, ◌∙◌}
use mathlib.Core.Bool.{cond}
use native.Mathlib.Omega.{arith}
use borrow.Author.Tests.{not-true, not-false}
use lib.Dec.{ltb}
use lib.ListN.{drop}
use Rattle.kit.specs.Loops.{all}
use Rattle.kit.proofs.Steps.{all_pass, all_fail, all_end}
use Rattle.store.specs.Graph.{nodes_of}
use Rattle.affix.specs.Prefix.{handles_of}
use Rattle.affix.proofs.Runs.{left-handle, no_handle}
use Rattle.events.specs.Events.{rules_of}
use Rattle.longer.proofs.Turns.{key_new, key_told, keys_run}
use Rattle.longer.proofs.keys_new.Goals as goal

pub loop-i-init : goal.loop-i-init
loop-i-init c =
    let a = c.args in
    let N = nodes_of a.node_count a.nodes.now in
    let R = rules_of a.rule_count a.rules.now in
    ap (λ (k : ℕ). all (key_new R N) (drop k (handles_of a.members.now))) (c.first_place-i.ensures ∙ ap (λ (k : ℕ). cond (ltb a.p k) 0 1) c.len_of.ensures)
    ∙ sym (keys_run a.p N R a.members.now (omega arith))

pub returns-then-not-no_rule : goal.returns-then-not-no_rule
returns-then-not-no_rule c =
    let a = c.args in
    let N = nodes_of a.node_count a.nodes.now in
    let R = rules_of a.rule_count a.rules.now in
    sym (all_fail (key_new R N) (left-handle a.members.now c.loop-i.i (omega arith)) (key_told R N _ _ _ c.no_rule.ensures c.id.ensures c.len_of-len.ensures ∙ not-true _ c.if-not-no_rule.true-raw)) ∙ c.loop-i.invariant

pub loop-i-preserved : goal.loop-i-preserved
loop-i-preserved c =
    let a = c.args in
    let N = nodes_of a.node_count a.nodes.now in
    let R = rules_of a.rule_count a.rules.now in
    sym (all_pass (key_new R N) (left-handle a.members.now c.loop-i.i (omega arith)) (key_told R N _ _ _ c.no_rule.ensures c.id.ensures c.len_of-len.ensures ∙ not-false _ c.if-not-no_rule.false-raw)) ∙ c.loop-i.invariant

pub returns : goal.returns
returns c =
    let a = c.args in
    sym (all_end (key_new (rules_of a.rule_count a.rules.now) (nodes_of a.node_count a.nodes.now)) (no_handle a.members.now c.loop-i.i (omega arith))) ∙ c.loop-i.invariant
