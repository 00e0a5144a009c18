use Prim.Native.Nat.{ℕ}
use mathlib.Core.Bool.{Bool, true}
use mathlib.Core.Path.{◌≡◌, sym, ap, ◌∙◌}
use borrow.Author.Tests.{not-true, not-false}
use Rattle.events.proofs.Says.{RuleRoom, room_says}
use Rattle.events.specs.WellFormed.{room_for_rules, good_rule}
use Rattle.events.specs.Events.{step_layout, rules_of}
use Rattle.kit.proofs.Laws.{length-decode}
use Rattle.kit.specs.Loops.{all}
use Rattle.events.proofs.table_formed.Goals as goal

pub returns-then-not-room_for_rules : goal.returns-then-not-room_for_rules
returns-then-not-room_for_rules c = rw (sym c.room_for_rules.ensures ∙ not-true _ c.if-not-room_for_rules.true-raw)

pub good_rules-requires : goal.good_rules-requires
good_rules-requires c =
    let passed : room_for_rules c.args.rules.now c.args.steps.now c.args.c ≡ true =
    sym c.room_for_rules.ensures ∙ not-false _ c.if-not-room_for_rules.false-raw
    in
    let room : RuleRoom c.args.rules.now c.args.steps.now c.args.c =
    let a = c.args in room_says a.rules.now a.steps.now a.c (passed)
    in
    (room).rule_room

pub returns-then-not-good_rules : goal.returns-then-not-good_rules
returns-then-not-good_rules c =
    let passed : room_for_rules c.args.rules.now c.args.steps.now c.args.c ≡ true =
    sym c.room_for_rules.ensures ∙ not-false _ c.if-not-room_for_rules.false-raw
    in
    let a = c.args in
    let ruled : ℕ → Bool = λ n. all (good_rule n) (rules_of a.c.rules a.rules.now) in
    let long = length-decode step_layout a.c.steps a.steps.now in
    rw (passed, ap ruled long ∙ sym c.good_rules.ensures ∙ not-true _ c.if-not-good_rules.true-raw)

pub good_steps-requires : goal.good_steps-requires
good_steps-requires c =
    let passed : room_for_rules c.args.rules.now c.args.steps.now c.args.c ≡ true =
    sym c.room_for_rules.ensures ∙ not-false _ c.if-not-room_for_rules.false-raw
    in
    let room : RuleRoom c.args.rules.now c.args.steps.now c.args.c =
    let a = c.args in room_says a.rules.now a.steps.now a.c (passed)
    in
    (room).step_room

pub returns : goal.returns
returns c =
    let passed : room_for_rules c.args.rules.now c.args.steps.now c.args.c ≡ true =
    sym c.room_for_rules.ensures ∙ not-false _ c.if-not-room_for_rules.false-raw
    in
    let a = c.args in
    let ruled : ℕ → Bool = λ n. all (good_rule n) (rules_of a.c.rules a.rules.now) in
    let long = length-decode step_layout a.c.steps a.steps.now in
    rw (passed, ap ruled long ∙ sym c.good_rules.ensures ∙ not-false _ c.if-not-good_rules.false-raw) c.good_steps.ensures
