use Prim.Native.Nat.{◌+◌, ◌*◌}
use mathlib.Core.Path.{◌≡◌, ap}
use Rattle.events.specs.declared.Rule.{Rule}
use mathlib.Core.List.{◌∷◌}
use native.Mathlib.Omega.{arith}
use lib.ListN.{drop, get_or}
use Rattle.kit.proofs.Laws.{left_none}
use Rattle.events.specs.Events.{step_layout}
use Rattle.events.proofs.Fields.{step_at}
use Rattle.expansion.specs.Filling.{event_walk}
use Rattle.expansion.proofs.Parts.{steps_next}
use Rattle.expansion.proofs.Walking.{going, turn_asks, turn_leaves, gone}
use Rattle.expansion.proofs.expand_event.Goals as goal

pub loop-k-init : goal.loop-k-init
loop-k-init c =
    let a = c.args in
    rw c.at-next.ensures (going a.table.now a.out.now a.d (a.i + 1) (get_or a.table.now (4 * a.i + 2) 0) (event_walk a.rules.now a.steps.now a.i))

pub expand_node-next-requires : goal.expand_node-next-requires
expand_node-next-requires c =
    let next-step : let ws = event_walk c.args.rules.now c.args.steps.now c.args.i in drop c.loop-k.k ws ≡ step_at c.args.steps.now (get_or c.args.rules.now (4 * c.args.i + 2) 0 + c.loop-k.k) ∷ drop (c.loop-k.k + 1) ws =
    let a = c.args in
    steps_next (get_or a.rules.now (4 * a.i + 3) 0) (get_or a.rules.now (4 * a.i + 2) 0) c.loop-k.k a.steps.now (omega (arith, ap (λ (x : Rule). x.steps) c.at-r.ensures))
    in
    let a = c.args in
    rw (c.at-s.ensures, c.at-r.ensures) (turn_asks a.table.now a.out.now a.d (a.i + 1) (get_or a.table.now (4 * a.i + 2) 0) (event_walk a.rules.now a.steps.now a.i) c.requires.3 c.loop-k.out c.loop-k.next c.loop-k.k _ (next-step) c.loop-k.invariant)

pub loop-k-preserved : goal.loop-k-preserved
loop-k-preserved c =
    let next-step : let ws = event_walk c.args.rules.now c.args.steps.now c.args.i in drop c.loop-k.k ws ≡ step_at c.args.steps.now (get_or c.args.rules.now (4 * c.args.i + 2) 0 + c.loop-k.k) ∷ drop (c.loop-k.k + 1) ws =
    let a = c.args in
    steps_next (get_or a.rules.now (4 * a.i + 3) 0) (get_or a.rules.now (4 * a.i + 2) 0) c.loop-k.k a.steps.now (omega (arith, ap (λ (x : Rule). x.steps) c.at-r.ensures))
    in
    let a = c.args in turn_leaves a.table.now a.out.now a.d (a.i + 1) (get_or a.table.now (4 * a.i + 2) 0) (event_walk a.rules.now a.steps.now a.i) c.requires.3 c.loop-k.out c.loop-k.next c.loop-k.k _ (next-step) c.loop-k.invariant _ _ (rw (c.at-s.ensures, c.at-r.ensures) at c.expand_node-next.ensures)

pub returns : goal.returns
returns c =
    let a = c.args in
    (gone a.table.now a.out.now a.d (a.i + 1) (get_or a.table.now (4 * a.i + 2) 0) (event_walk a.rules.now a.steps.now a.i) c.loop-k.out c.loop-k.next c.loop-k.k
    (left_none step_layout (get_or a.rules.now (4 * a.i + 3) 0) c.loop-k.k (drop (2 * get_or a.rules.now (4 * a.i + 2) 0) a.steps.now) (omega (arith, ap (λ (x : Rule). x.steps) c.at-r.ensures))) c.loop-k.invariant).numbers
