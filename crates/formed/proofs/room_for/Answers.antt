use mathlib.Core.Path.{sym}
use native.Mathlib.Omega.{arith}
use borrow.Author.Tests.{leb-true, le-leb}
use Rattle.formed.proofs.Says.{room_says, says_room}
use Rattle.kit.proofs.Bools.{not_true_false, same_test}
use Rattle.formed.proofs.room_for.Goals as goal

pub returns-then-c-gt65536 : goal.returns-then-c-gt65536
returns-then-c-gt65536 c =
    let a = c.args in
    sym (not_true_false _ (λ t. let r = room_says a.nodes.now a.text.now a.links.now a.c t in omega (arith, c.if-c-gt65536.true)))

pub returns-then-nodes-c : goal.returns-then-nodes-c
returns-then-nodes-c c =
    let a = c.args in
    sym (not_true_false _ (λ t. let r = room_says a.nodes.now a.text.now a.links.now a.c t in omega (arith, c.if-nodes-c.true)))

pub returns-then-c-gt16777216 : goal.returns-then-c-gt16777216
returns-then-c-gt16777216 c =
    let a = c.args in
    sym (not_true_false _ (λ t. let r = room_says a.nodes.now a.text.now a.links.now a.c t in omega (arith, c.if-c-gt16777216.true)))

pub returns-then-text-c : goal.returns-then-text-c
returns-then-text-c c =
    let a = c.args in
    sym (not_true_false _ (λ t. let r = room_says a.nodes.now a.text.now a.links.now a.c t in omega (arith, c.if-text-c.true)))

pub returns-then-c-gt131072 : goal.returns-then-c-gt131072
returns-then-c-gt131072 c =
    let a = c.args in
    sym (not_true_false _ (λ t. let r = room_says a.nodes.now a.text.now a.links.now a.c t in omega (arith, c.if-c-gt131072.true)))

pub returns : goal.returns
returns c =
    let a = c.args in
    same_test _ _
    (λ t. says_room a.nodes.now a.text.now a.links.now a.c (record {
      few_nodes = omega arith;
      node_room = omega arith;
      few_letters = omega arith;
      letter_room = omega arith;
      few_links = omega arith;
      link_room = leb-true _ _ t;
    }))
    (λ t. le-leb _ _ (room_says a.nodes.now a.text.now a.links.now a.c t).link_room)
