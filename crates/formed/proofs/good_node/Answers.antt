use Prim.Native.Nat.{ℕ, ◌+◌, ◌-◌}
use mathlib.Core.Path.{◌≡◌, sym, ap, ◌∙◌}
use native.Mathlib.Omega.{arith}
use lib.ListN.{take, drop}
use Rattle.letters.specs.Sequences.{all_letters}
use Rattle.formed.proofs.Says.{node_says, says_node}
use Rattle.kit.proofs.Bools.{not_true_false, same_test}
use Rattle.formed.proofs.good_node.Goals as goal

pub returns-then-r-lt1 : goal.returns-then-r-lt1
returns-then-r-lt1 c =
    let a = c.args in
    sym (not_true_false _ (λ t. let r = node_says a.text.now (a.r) t in omega arith))

pub returns-then-r-gt-MAX_ID : goal.returns-then-r-gt-MAX_ID
returns-then-r-gt-MAX_ID c =
    let a = c.args in
    sym (not_true_false _ (λ t. let r = node_says a.text.now (a.r) t in omega arith))

pub returns-then-r-gt1 : goal.returns-then-r-gt1
returns-then-r-gt1 c =
    let a = c.args in
    sym (not_true_false _ (λ t. let r = node_says a.text.now (a.r) t in omega arith))

pub returns-then-r-lt1-2 : goal.returns-then-r-lt1-2
returns-then-r-lt1-2 c =
    let a = c.args in
    sym (not_true_false _ (λ t. let r = node_says a.text.now (a.r) t in omega arith))

pub returns-then-text-r : goal.returns-then-text-r
returns-then-text-r c =
    let a = c.args in
    sym (not_true_false _ (λ t. let r = node_says a.text.now (a.r) t in omega arith))

pub returns-then-text-r-2 : goal.returns-then-text-r-2
returns-then-text-r-2 c =
    let a = c.args in
    sym (not_true_false _ (λ t. let r = node_says a.text.now (a.r) t in omega arith))

pub returns : goal.returns
returns c =
    let a = c.args in
    let r = a.r in
    let n : a.r.start + a.r.len - a.r.start ≡ a.r.len = omega arith in
    c.all_letters.ensures ∙ ap (λ (k : ℕ). all_letters (take k (drop a.r.start a.text.now))) n ∙ same_test _ _
    (λ t. says_node a.text.now r (record {
      id_low = omega arith;
      id_high = omega arith;
      mark_bit = omega arith;
      some_letter = omega arith;
      inside = omega arith;
      ten_letters = t;
    }))
    (λ t. (node_says a.text.now r t).ten_letters)
