use Prim.Native.Nat.{ℕ, ◌+◌}
use mathlib.Core.Path.{◌≡◌, refl, sym, ap, ◌∙◌}
use native.Mathlib.Omega.{arith}
use mathlib.Core.List.{List, [], ◌∷◌}
use lib.ListN.{length, drop}
use Rattle.std.specs.Prelude.{Option, Some, None}
use Rattle.kit.specs.Loops.{find_from}
use Rattle.handle.specs.declared.Handle.{Handle}
use Rattle.handle.specs.Handle.{id_of, flip}
use Rattle.events.specs.declared.Step.{Step}
use mathlib.Core.Bool.{cond}
use Rattle.events.specs.declared.Used.{Used}
use Rattle.events.specs.Events.{rules_of, steps_of, keyed, step_to}
use Rattle.events.proofs.Fields.{step_at}
use Rattle.expansion.specs.Filling.{toward, part_of, node_in, walk_in, Ready}
use Rattle.expansion.proofs.Nodes.{node_none}
use Rattle.expansion.proofs.Walking.{gone, turn_asks, turn_leaves, Hit, hit}
use Rattle.expansion.proofs.Parts.{walk-read, walk_done}
use Rattle.expansion.proofs.+expand_node_expand_walk.Goals as goal

-- what the lookup of a node tells, where it has found a rule and where it has found none
module _ (rules steps : List ℕ) (c : Used) (ahead at : ℕ) (node : Handle) (len id : ℕ) (found : Option ℕ) (e : id ≡ id_of node) (f : found ≡ find_from (keyed id len) ahead (drop ahead (rules_of c.rules rules))) where
  looked : find_from (keyed (id_of node) len) ahead (drop ahead (rules_of c.rules rules)) ≡ found
  looked = ap (λ (i : ℕ). find_from (keyed i len) ahead (drop ahead (rules_of c.rules rules))) (sym e) ∙ sym f

  node-hit : (j : ℕ) → Ready rules steps c ahead at (node_in rules steps c ahead (step_to node len)) → found ≡ Some j → Hit rules steps c ahead at (step_to node len) j
  node-hit j r q = hit rules steps c ahead at (step_to node len) j r (looked ∙ q)

  node-miss : found ≡ None → node_in rules steps c ahead (step_to node len) ≡ step_to node len ∷ []
  node-miss q = node_none (steps_of c.steps steps) (step_to node len) ahead (drop ahead (rules_of c.rules rules)) (looked ∙ q)

pub expand_node-put-requires : goal.expand_node-put-requires
expand_node-put-requires t c =
    let a = c.args in
    let one = ap length (node-miss a.rules.now a.steps.now a.c a.ahead a.at a.node a.len c.id.result c.next_rule.result c.id.ensures c.next_rule.ensures.value c.in_default.is) in
    omega (arith, one, c.requires.fits, c.requires.step_room)

pub expand_node-returns-in_default : goal.expand_node-returns-in_default
expand_node-returns-in_default t c =
    let a = c.args in
    let one = node-miss a.rules.now a.steps.now a.c a.ahead a.at a.node a.len c.id.result c.next_rule.result c.id.ensures c.next_rule.ensures.value c.in_default.is in
    rw one record { place = refl; numbers = c.put.ensures }

pub expand_node-at-r-requires : goal.expand_node-at-r-requires
expand_node-at-r-requires t c =
    let a = c.args in
    let h = node-hit a.rules.now a.steps.now a.c a.ahead a.at a.node a.len c.id.result c.next_rule.result c.id.ensures c.next_rule.ensures.value c.in-Some.j c.requires c.in-Some.is in
    omega (arith, h.high)

pub expand_node-overflow_add-j : goal.expand_node-overflow_add-j
expand_node-overflow_add-j t c =
    let a = c.args in
    let h = node-hit a.rules.now a.steps.now a.c a.ahead a.at a.node a.len c.id.result c.next_rule.result c.id.ensures c.next_rule.ensures.value c.in-Some.j c.requires c.in-Some.is in
    omega (arith, h.high)

pub expand_node-expand_walk-requires : goal.expand_node-expand_walk-requires
expand_node-expand_walk-requires t c =
    let a = c.args in
    let h = node-hit a.rules.now a.steps.now a.c a.ahead a.at a.node a.len c.id.result c.next_rule.result c.id.ensures c.next_rule.ensures.value c.in-Some.j c.requires c.in-Some.is in
    rw (c.direction-forward.ensures, c.at-r.ensures)
    (omega (arith, h.low, h.high, c.decreases), (h.ready, h.below, h.inside))

pub expand_node-returns : goal.expand_node-returns
expand_node-returns t c =
    let a = c.args in
    let h = node-hit a.rules.now a.steps.now a.c a.ahead a.at a.node a.len c.id.result c.next_rule.result c.id.ensures c.next_rule.ensures.value c.in-Some.j c.requires c.in-Some.is in
    rw h.same (rw (c.direction-forward.ensures, c.at-r.ensures) at c.expand_walk.ensures)

-- the node that the turn reads is the walk's k-th
pub expand_walk-expand_node-next-requires : goal.expand_walk-expand_node-next-requires
expand_walk-expand_node-next-requires t c =
    let a = c.args in
    let ws = toward a.forward (part_of a.steps.now a.c a.first a.n) in
    let s = step_to c.turned.result (step_at c.loop-k.steps (a.first + c.nth.result)).len in
    let turn : drop c.loop-k.k ws ≡ s ∷ drop (c.loop-k.k + 1) ws =
    walk-read a.steps.now c.loop-k.steps a.c a.first a.n a.forward c.loop-k.k (a.at + length (walk_in a.rules.now a.steps.now a.c a.ahead ws)) c.nth.result c.turned.result c.requires.2 c.loop-k-test.true c.requires.1 c.loop-k.invariant.1.above c.nth.ensures (c.turned.ensures ∙ ap (λ (x : Step). cond a.forward x.node (flip x.node)) c.at-s.ensures)
    in
    (omega (arith, c.decreases), rw c.at-s.ensures (turn_asks a.rules.now a.steps.now a.c a.ahead a.at ws c.requires.0 c.loop-k.steps c.loop-k.next c.loop-k.k s turn c.loop-k.invariant.1))

pub expand_walk-loop-k-preserved : goal.expand_walk-loop-k-preserved
expand_walk-loop-k-preserved t c =
    let a = c.args in
    let ws = toward a.forward (part_of a.steps.now a.c a.first a.n) in
    let s = step_to c.turned.result (step_at c.loop-k.steps (a.first + c.nth.result)).len in
    let turn : drop c.loop-k.k ws ≡ s ∷ drop (c.loop-k.k + 1) ws =
    walk-read a.steps.now c.loop-k.steps a.c a.first a.n a.forward c.loop-k.k (a.at + length (walk_in a.rules.now a.steps.now a.c a.ahead ws)) c.nth.result c.turned.result c.requires.2 c.loop-k-test.true c.requires.1 c.loop-k.invariant.1.above c.nth.ensures (c.turned.ensures ∙ ap (λ (x : Step). cond a.forward x.node (flip x.node)) c.at-s.ensures)
    in (
      omega arith,
      turn_leaves a.rules.now a.steps.now a.c a.ahead a.at ws c.requires.0 c.loop-k.steps c.loop-k.next c.loop-k.k s turn c.loop-k.invariant.1 c.expand_node-next.new.steps c.expand_node-next.result (rw c.at-s.ensures at c.expand_node-next.ensures),
    )

pub expand_walk-returns : goal.expand_walk-returns
expand_walk-returns t c =
    let a = c.args in
    let ws = toward a.forward (part_of a.steps.now a.c a.first a.n) in
    gone a.rules.now a.steps.now a.c a.ahead a.at ws c.loop-k.steps c.loop-k.next c.loop-k.k (walk_done a.steps.now a.c a.first a.n c.requires.2 a.forward c.loop-k.k c.loop-k-test.false) c.loop-k.invariant.1
