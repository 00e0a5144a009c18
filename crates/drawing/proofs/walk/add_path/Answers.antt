use Prim.Native.Nat.{◌^◌, ◌<◌}
use mathlib.Core.Path.{refl, ap}
use mathlib.Core.List.{[], map}
use native.Mathlib.Omega.{arith}
use borrow.Author.Rules.{rules}
use lib.ListN.{length}
use Rattle.store.specs.Graph.{graph_of}
use Rattle.events.specs.Events.{list_of}
use Rattle.rewriting.specs.Rewriting.{transform_node, transform_walk}
use Rattle.text.specs.Steps.{path_handle, path_handles}
use Rattle.text.proofs.Cuts.{piece_last, piece_more}
use Rattle.drawing.proofs.Capping.{capping_none, capped_is}
use Rattle.drawing.proofs.Drawing.{path_text_lem, walk_next, walk_end, walk_stop}
use Rattle.drawing.proofs.walk.add_path.Goals as goal

pub loop-c-init : goal.loop-c-init
loop-c-init c = (search rules, capping_none _ c.requires.fact)

pub add_node-pen-requires : goal.add_node-pen-requires
add_node-pen-requires c = record { nodes_in_bounds = c.requires.nodes_in_bounds; fact = c.loop-c.invariant.1.room }

pub returns-then-end-path : goal.returns-then-end-path
returns-then-end-path c =
    let a = c.args in
    let g = graph_of a.nodes.now [] [] a.c in
    let t = list_of a.rules.now a.steps.now a.u in
    capped_is (path_text_lem (transform_walk g t (path_handles a.path.now))) (walk_end (transform_node g t) c.loop-c.invariant.1 (ap (map path_handle) (piece_last c.piece_end-end.ensures c.if-end-path.true)) c.path_handle-h.ensures c.add_node-pen.ensures (search rules) refl)

pub returns-then-stop-pen : goal.returns-then-stop-pen
returns-then-stop-pen c =
    let a = c.args in
    let g = graph_of a.nodes.now [] [] a.c in
    let t = list_of a.rules.now a.steps.now a.u in
    capped_is (path_text_lem (transform_walk g t (path_handles a.path.now))) (walk_stop (transform_node g t) c.loop-c.invariant.1 (ap (map path_handle) (piece_more c.piece_end-end.ensures c.if-end-path.false)) c.path_handle-h.ensures c.add_node-pen.ensures (search rules) c.if-stop-pen.true)

pub overflow_add-from : goal.overflow_add-from
overflow_add-from c =
    let short : length c.args.path.now < 2 ^ 64 =
    omega arith
    in
    omega (arith, c.piece_end-end.ensures.high, short)

pub loop-c-preserved : goal.loop-c-preserved
loop-c-preserved c =
    let a = c.args in
    let g = graph_of a.nodes.now [] [] a.c in
    let t = list_of a.rules.now a.steps.now a.u in
    (search rules, walk_next (transform_node g t) c.loop-c.invariant.1 (ap (map path_handle) (piece_more c.piece_end-end.ensures c.if-end-path.false)) c.path_handle-h.ensures c.add_node-pen.ensures (search rules))
