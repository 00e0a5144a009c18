use mathlib.Core.Path.{sym}
use native.Mathlib.Omega.{arith}
use borrow.Author.Tests.{le-leb, leb-true}
use Rattle.events.proofs.Says.{room_says, says_room}
use Rattle.kit.proofs.Bools.{not_true_false, same_test}
use Rattle.events.proofs.room_for_rules.Goals as goal

pub returns-then-c-gt65536 : goal.returns-then-c-gt65536
returns-then-c-gt65536 c =
    let a = c.args in
    sym (not_true_false _ (λ t. let r = room_says a.rules.now a.steps.now a.c t in omega arith))

pub returns-then-rules-c : goal.returns-then-rules-c
returns-then-rules-c c =
    let a = c.args in
    sym (not_true_false _ (λ t. let r = room_says a.rules.now a.steps.now a.c t in omega arith))

pub returns-then-c-gt262144 : goal.returns-then-c-gt262144
returns-then-c-gt262144 c =
    let a = c.args in
    sym (not_true_false _ (λ t. let r = room_says a.rules.now a.steps.now a.c t in omega arith))

pub returns : goal.returns
returns c =
    let a = c.args in
    same_test _ _
    (λ t. says_room a.rules.now a.steps.now a.c (record { few_rules = omega arith; rule_room = omega arith; few_steps = omega arith; step_room = leb-true _ _ t }))
    (λ t. le-leb _ _ (room_says a.rules.now a.steps.now a.c t).step_room)
