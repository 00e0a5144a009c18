use Prim.Native.Nat.{ℕ, ◌+◌}
use mathlib.Core.Bool.{Bool}
use mathlib.Core.List.{List}
use mathlib.Core.Path.{refl, sym, ap, ◌∙◌}
use native.Mathlib.Omega.{arith}
use borrow.Author.Tests.{not-true, not-false}
use borrow.Author.Rules.{rules}
use lib.ListN.{drop}
use Rattle.kit.proofs.Steps.{all_pass, all_fail}
use Rattle.store.specs.Graph.{nodes_of}
use Rattle.affix.specs.Prefix.{handles_of}
use Rattle.events.specs.Events.{rules_of, Event}
use Rattle.events.specs.declared.Rule.{Rule}
use Rattle.events.specs.WellFormed.{steps_later}
use Rattle.longer.specs.Ahead.{later_events_by, steps_new}
use Rattle.longer.proofs.Turns.{count_turn, run-turn, run_end}
use Rattle.longer.proofs.run_new.Goals as goal

abbrev clear : List Rule → Event → Bool
clear rules e = steps_later rules e.walk

pub loop-i-init : goal.loop-i-init
loop-i-init c = (c.requires.members_bound, refl)

pub event_new-requires : goal.event_new-requires
event_new-requires c =
    let a = c.args in
    (omega arith, omega (arith, c.loop-i.invariant.0, count_turn a.p (nodes_of a.node_count a.nodes.now) a.members.now c.loop-i.i _ (omega arith) c.len_of-len.ensures c.loop-i.fresh))

pub returns-then-not-event_new : goal.returns-then-not-event_new
returns-then-not-event_new c =
    let a = c.args in
    let N = nodes_of a.node_count a.nodes.now in
    let R = rules_of a.rule_count a.rules.now in
    sym (all_fail (clear R) (run-turn a.p N a.members.now c.loop-i.i _ (omega arith) c.len_of-len.ensures a.r.x c.loop-i.fresh) (sym c.event_new.ensures ∙ not-true _ c.if-not-event_new.true-raw)) ∙ c.loop-i.invariant.1

pub fresh_after-fresh-requires : goal.fresh_after-fresh-requires
fresh_after-fresh-requires c t = omega (arith, c.loop-i.invariant.0)

pub loop-i-preserved : goal.loop-i-preserved
loop-i-preserved c =
    let a = c.args in
    let N = nodes_of a.node_count a.nodes.now in
    let R = rules_of a.rule_count a.rules.now in
    let i = c.loop-i.i in (
      omega (arith, c.loop-i.invariant.0, c.fresh_after-fresh.ensures, count_turn a.p N a.members.now i _ (omega arith) c.len_of-len.ensures c.loop-i.fresh),
      ap (λ (k : ℕ). steps_new R (later_events_by a.p N a.r.x k (drop (i + 1) (handles_of a.members.now)))) c.fresh_after-fresh.ensures
          ∙ sym (all_pass (clear R) (run-turn a.p N a.members.now i _ (omega arith) c.len_of-len.ensures a.r.x c.loop-i.fresh) (sym c.event_new.ensures ∙ not-false _ c.if-not-event_new.false-raw)) ∙ c.loop-i.invariant.1,
    )

pub returns : goal.returns
returns c =
    let a = c.args in
    sym (ap (steps_new (rules_of a.rule_count a.rules.now)) (run_end a.p (nodes_of a.node_count a.nodes.now) a.members.now c.loop-i.i a.r.x c.loop-i.fresh (omega arith))) ∙ c.loop-i.invariant.1
