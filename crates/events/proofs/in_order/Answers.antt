use Prim.Native.Nat.{ℕ, ◌+◌, ◌≤◌}
use mathlib.Core.Path.{◌≡◌, refl, sym, ap, ◌∙◌}
use mathlib.Core.Bool.{true}
use native.Mathlib.Omega.{arith}
use lib.ListN.{drop}
use borrow.Author.Tests.{not-true, not-false}
use Rattle.events.specs.Events.{rules_of, steps_of, walk_of}
use Rattle.events.specs.WellFormed.{table_formed, steps_later}
use Rattle.events.proofs.Fields.{rule_at}
use Rattle.events.specs.declared.Rule.{Rule}
use Rattle.events.proofs.Says.{RuleRoom, table-room}
use Rattle.events.proofs.Order.{table-inside, walk_is, order_pass, order_fail, order_end}
use Rattle.events.proofs.in_order.Invariants.{used}
use Rattle.events.proofs.in_order.Goals as goal

pub loop-i-init : goal.loop-i-init
loop-i-init c = λ total t. refl

pub at-r-requires : goal.at-r-requires
at-r-requires c =
    let room : RuleRoom c.args.rules.now c.args.steps.now c.args.c =
    table-room c.args.rules.now c.args.steps.now c.args.c c.requires
    in
    omega (arith, room)

pub overflow_add-end : goal.overflow_add-end
overflow_add-end c =
    let room : RuleRoom c.args.rules.now c.args.steps.now c.args.c =
    table-room c.args.rules.now c.args.steps.now c.args.c c.requires
    in
    let inside : c.at-r.result.first + c.at-r.result.steps ≤ c.args.c.steps =
    rw c.at-r.ensures (table-inside c.args.rules.now c.args.steps.now c.args.c c.requires c.loop-i.i (omega arith))
    in
    omega (arith, room, inside)

pub steps_later-requires : goal.steps_later-requires
steps_later-requires c =
    let room : RuleRoom c.args.rules.now c.args.steps.now c.args.c =
    table-room c.args.rules.now c.args.steps.now c.args.c c.requires
    in
    let inside : c.at-r.result.first + c.at-r.result.steps ≤ c.args.c.steps =
    rw c.at-r.ensures (table-inside c.args.rules.now c.args.steps.now c.args.c c.requires c.loop-i.i (omega arith))
    in
    (omega (arith, room), omega (arith, room, inside))

pub returns-then-not-steps_later : goal.returns-then-not-steps_later
returns-then-not-steps_later c =
    let said : (total : ℕ) → table_formed c.args.rules.now c.args.steps.now (used c.args.c.rules total) ≡ true → steps_later (rules_of (c.loop-i.i + 1) c.args.rules.now) (walk_of (steps_of total c.args.steps.now) (rule_at c.args.rules.now c.loop-i.i)) ≡ c.steps_later.result =
    λ total t. let a = c.args in
    let i = c.loop-i.i in
    let r = rule_at a.rules.now i in
    ap (steps_later (rules_of (i + 1) a.rules.now)) (walk_is total a.steps.now r (table-inside a.rules.now a.steps.now (used a.c.rules total) t i (omega arith)))
    ∙ sym (c.steps_later.ensures ∙ ap (λ (x : Rule). steps_later (rules_of (i + 1) a.rules.now) (drop x.first (steps_of (x.first + x.steps) a.steps.now))) c.at-r.ensures)
    in
    let a = c.args in
    sym (order_fail a.rules.now (steps_of a.c.steps a.steps.now) a.c.rules c.loop-i.i (omega arith) (said a.c.steps c.requires ∙ not-true _ c.if-not-steps_later.true-raw)) ∙ c.loop-i.invariant a.c.steps c.requires

pub loop-i-preserved : goal.loop-i-preserved
loop-i-preserved c =
    let said : (total : ℕ) → table_formed c.args.rules.now c.args.steps.now (used c.args.c.rules total) ≡ true → steps_later (rules_of (c.loop-i.i + 1) c.args.rules.now) (walk_of (steps_of total c.args.steps.now) (rule_at c.args.rules.now c.loop-i.i)) ≡ c.steps_later.result =
    λ total t. let a = c.args in
    let i = c.loop-i.i in
    let r = rule_at a.rules.now i in
    ap (steps_later (rules_of (i + 1) a.rules.now)) (walk_is total a.steps.now r (table-inside a.rules.now a.steps.now (used a.c.rules total) t i (omega arith)))
    ∙ sym (c.steps_later.ensures ∙ ap (λ (x : Rule). steps_later (rules_of (i + 1) a.rules.now) (drop x.first (steps_of (x.first + x.steps) a.steps.now))) c.at-r.ensures)
    in
    let a = c.args in
    λ total t. sym (order_pass a.rules.now (steps_of total a.steps.now) a.c.rules c.loop-i.i (omega arith) (said total t ∙ not-false _ c.if-not-steps_later.false-raw)) ∙ c.loop-i.invariant total t

pub returns : goal.returns
returns c =
    let a = c.args in
    sym (order_end a.rules.now (steps_of a.c.steps a.steps.now) a.c.rules c.loop-i.i (omega arith)) ∙ c.loop-i.invariant a.c.steps c.requires
