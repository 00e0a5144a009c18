use mathlib.Core.List.{[]}
use mathlib.Core.Path.{ap}
use native.Mathlib.Omega.{arith}
use lib.ListN.{length}
use Rattle.kit.specs.Loops.{lines}
use Rattle.kit.proofs.Writes.{lines_more, lines_end}
use Rattle.store.specs.Graph.{handle, graph_of, nodes_of}
use Rattle.sides.proofs.Rising.{rest_above, Step, next-step, next_end}
use Rattle.writing.specs.GraphText.{segment_line, live_segments}
use Rattle.writing.proofs.Filling.{filling_none, filling_fits, filling_next, filling_all}
use Rattle.writing.proofs.Segments.{readable_ids, segments_sorted, segments-all, segment_of_lem, step_member}
use Rattle.writing.proofs.graph.fill_segments.Goals as goal

pub loop-h-init : goal.loop-h-init
loop-h-init c =
    let a = c.args in
    rw (segments-all (nodes_of a.c.nodes a.nodes.now) (readable_ids a.nodes.now a.text.now a.c c.requires.readable)) (filling_none a.out.now a.at (lines (segment_line (graph_of a.nodes.now a.text.now [] a.c)) (live_segments (nodes_of a.c.nodes a.nodes.now))))

pub next_segment-requires : goal.next_segment-requires
next_segment-requires c =
    let a = c.args in
    record { count_in_bounds = c.requires.readable.node_room; nodes_value = readable_ids a.nodes.now a.text.now a.c c.requires.readable }

pub returns : goal.returns
returns c =
    let a = c.args in
    filling_all c.loop-h.invariant (lines_end (segment_line (graph_of a.nodes.now a.text.now [] a.c)) (next_end c.loop-h.above (live_segments (nodes_of a.c.nodes a.nodes.now)) c.in_default.ensures.value))

pub fill_segment-place-requires : goal.fill_segment-place-requires
fill_segment-place-requires c =
    let step : Step c.loop-h.above (live_segments (nodes_of c.args.c.nodes c.args.nodes.now)) c.in-Some.h.packed =
    let a = c.args in
    next-step c.loop-h.above c.in-Some.h.packed (segments_sorted (nodes_of a.c.nodes a.nodes.now)) c.in-Some.ensures.value c.in-Some.ensures.some
    in
    let a = c.args in
    let n = c.in-Some.h.packed in
    record { readable = (c.requires.readable, (segment_of_lem (nodes_of a.c.nodes a.nodes.now) (step_member (step))).forward); h_bound = filling_fits (segment_line (graph_of a.nodes.now a.text.now [] a.c) (handle n)) (lines (segment_line (graph_of a.nodes.now a.text.now [] a.c)) (rest_above n (live_segments (nodes_of a.c.nodes a.nodes.now)))) c.loop-h.invariant (lines_more (segment_line (graph_of a.nodes.now a.text.now [] a.c)) (step).rest) c.requires.nodes_bound }

pub loop-h-smaller : goal.loop-h-smaller
loop-h-smaller c =
    let step : Step c.loop-h.above (live_segments (nodes_of c.args.c.nodes c.args.nodes.now)) c.in-Some.h.packed =
    let a = c.args in
    next-step c.loop-h.above c.in-Some.h.packed (segments_sorted (nodes_of a.c.nodes a.nodes.now)) c.in-Some.ensures.value c.in-Some.ensures.some
    in
    omega (arith, ap length (step).rest)

pub loop-h-preserved : goal.loop-h-preserved
loop-h-preserved c =
    let step : Step c.loop-h.above (live_segments (nodes_of c.args.c.nodes c.args.nodes.now)) c.in-Some.h.packed =
    let a = c.args in
    next-step c.loop-h.above c.in-Some.h.packed (segments_sorted (nodes_of a.c.nodes a.nodes.now)) c.in-Some.ensures.value c.in-Some.ensures.some
    in
    let a = c.args in
    filling_next c.loop-h.invariant (lines_more (segment_line (graph_of a.nodes.now a.text.now [] a.c)) (step).rest) c.fill_segment-place.ensures c.fill_segment-place.auto.out
