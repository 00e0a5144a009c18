use Prim.Native.Nat.{◌-◌}
use mathlib.Core.Path.{sym}
use native.Mathlib.Omega.{arith}
use borrow.Author.Tests.{le-leb, leb-true}
use Rattle.events.proofs.Says.{rule_says, says_rule}
use Rattle.kit.proofs.Bools.{not_true_false, same_test}
use Rattle.events.proofs.good_rule.Goals as goal

pub returns-then-r-lt1 : goal.returns-then-r-lt1
returns-then-r-lt1 c =
    let a = c.args in
    sym (not_true_false _ (λ t. let f = rule_says a.total a.r t in omega arith))

pub returns-then-r-gt-MAX_ID : goal.returns-then-r-gt-MAX_ID
returns-then-r-gt-MAX_ID c =
    let a = c.args in
    sym (not_true_false _ (λ t. let f = rule_says a.total a.r t in omega arith))

pub returns-then-total-r : goal.returns-then-total-r
returns-then-total-r c =
    let a = c.args in
    sym (not_true_false _ (λ t. let f = rule_says a.total a.r t in omega arith))

pub returns : goal.returns
returns c =
    let a = c.args in
    same_test _ _
    (λ t. says_rule a.total a.r (record { low = omega arith; high = omega arith; inside = omega (arith, leb-true a.r.first (a.total - a.r.steps) t) }))
    (λ t. le-leb a.r.first (a.total - a.r.steps) (omega (arith, (rule_says a.total a.r t).inside)))
