use Prim.Native.Nat.{ℕ}
use mathlib.Core.Path.{ap}
use mathlib.Core.List.{[], List, map}
use borrow.Author.Rules.{rules}
use lib.ListN.{drop_of_length-le}
use Rattle.store.specs.Graph.{graph_of}
use Rattle.events.specs.Events.{list_of}
use Rattle.rewriting.specs.Rewriting.{transform_node, transform_walk}
use Rattle.text.specs.Steps.{walk_handle, walk_handles}
use Rattle.drawing.specs.Drawn.{steps_text}
use Rattle.drawing.proofs.Capping.{capping_none, capping_all, capped_is}
use Rattle.drawing.proofs.Drawing.{walk_text_lem, walk_next, walk_stop}
use Rattle.drawing.proofs.walk.add_walk.Goals as goal

pub loop-from-init : goal.loop-from-init
loop-from-init c = (search rules, capping_none _ c.requires.fact)

pub add_node-pen-requires : goal.add_node-pen-requires
add_node-pen-requires c = record { nodes_in_bounds = c.requires.nodes_in_bounds; fact = c.loop-from.invariant.1.room }

pub returns-then-stop-pen : goal.returns-then-stop-pen
returns-then-stop-pen c =
    let a = c.args in
    let g = graph_of a.nodes.now [] [] a.c in
    let t = list_of a.rules.now a.steps.now a.u in
    capped_is (walk_text_lem (transform_walk g t (walk_handles a.walk.now))) (walk_stop (transform_node g t) c.loop-from.invariant.1 (ap (map walk_handle) c.walk_step_end-end.ensures.cut) c.walk_handle-h.ensures c.add_node-pen.ensures (search rules) c.if-stop-pen.true)

pub loop-from-preserved : goal.loop-from-preserved
loop-from-preserved c =
    let a = c.args in
    let g = graph_of a.nodes.now [] [] a.c in
    let t = list_of a.rules.now a.steps.now a.u in
    (c.walk_step_end-end.ensures.high, walk_next (transform_node g t) c.loop-from.invariant.1 (ap (map walk_handle) c.walk_step_end-end.ensures.cut) c.walk_handle-h.ensures c.add_node-pen.ensures (search rules))

pub returns : goal.returns
returns c =
    let a = c.args in
    let g = graph_of a.nodes.now [] [] a.c in
    let t = list_of a.rules.now a.steps.now a.u in
    capped_is (walk_text_lem (transform_walk g t (walk_handles a.walk.now))) (capping_all c.loop-from.invariant.1 (ap (λ (bs : List ℕ). steps_text c.loop-from.pen.mark (transform_walk g t (walk_handles bs))) (drop_of_length-le a.walk.now c.loop-from-test.false)))
