use mathlib.Core.List.{[]}
use mathlib.Core.Path.{ap}
use native.Mathlib.Omega.{arith}
use lib.ListN.{length}
use Rattle.kit.specs.Loops.{lines}
use Rattle.kit.proofs.Writes.{lines_more, lines_end}
use Rattle.store.specs.Graph.{handle, graph_of, nodes_of}
use Rattle.sides.proofs.Rising.{rest_above, Step, next-step, next_end}
use Rattle.events.specs.Events.{list_of}
use Rattle.writing.specs.GraphText.{live_segments}
use Rattle.writing.specs.TableText.{table_line, old_segments}
use Rattle.writing.proofs.Filling.{filling_none, filling_fits, filling_next, filling_all}
use Rattle.writing.proofs.Segments.{segments_sorted, segments-all, segment_of_lem, step_member, live-old}
use Rattle.tabling.proofs.fill_rows.Goals as goal

pub loop-h-init : goal.loop-h-init
loop-h-init c =
    let a = c.args in
    rw (segments-all (nodes_of a.c.nodes a.nodes.now) c.requires.nodes_value.0, live-old (nodes_of a.c.nodes a.nodes.now) c.requires.nodes_value.1) (filling_none a.out.now a.at (lines (table_line (graph_of a.nodes.now [] [] a.c) (list_of a.rules.now a.steps.now a.u)) (old_segments (nodes_of a.c.nodes a.nodes.now))))

pub next_segment-requires : goal.next_segment-requires
next_segment-requires c = record { count_in_bounds = c.requires.nodes_in_bounds.0; nodes_value = c.requires.nodes_value.0 }

pub returns : goal.returns
returns c =
    let a = c.args in
    filling_all c.loop-h.invariant (lines_end (table_line (graph_of a.nodes.now [] [] a.c) (list_of a.rules.now a.steps.now a.u)) (next_end c.loop-h.above (live_segments (nodes_of a.c.nodes a.nodes.now)) c.in_default.ensures.value))

pub fill_old-place-requires : goal.fill_old-place-requires
fill_old-place-requires c =
    let step : Step c.loop-h.above (live_segments (nodes_of c.args.c.nodes c.args.nodes.now)) c.in-Some.h.packed =
    let a = c.args in
    next-step c.loop-h.above c.in-Some.h.packed (segments_sorted (nodes_of a.c.nodes a.nodes.now)) c.in-Some.ensures.value c.in-Some.ensures.some
    in
    let a = c.args in
    let n = c.in-Some.h.packed in
    record { nodes_in_bounds = (c.requires.nodes_in_bounds.0, c.requires.nodes_in_bounds.1, (segment_of_lem (nodes_of a.c.nodes a.nodes.now) (step_member (step))).forward); h_bound = filling_fits (table_line (graph_of a.nodes.now [] [] a.c) (list_of a.rules.now a.steps.now a.u) (handle n)) (lines (table_line (graph_of a.nodes.now [] [] a.c) (list_of a.rules.now a.steps.now a.u)) (rest_above n (live_segments (nodes_of a.c.nodes a.nodes.now)))) c.loop-h.invariant (lines_more (table_line (graph_of a.nodes.now [] [] a.c) (list_of a.rules.now a.steps.now a.u)) (step).rest) c.requires.nodes_bound }

pub loop-h-smaller : goal.loop-h-smaller
loop-h-smaller c =
    let step : Step c.loop-h.above (live_segments (nodes_of c.args.c.nodes c.args.nodes.now)) c.in-Some.h.packed =
    let a = c.args in
    next-step c.loop-h.above c.in-Some.h.packed (segments_sorted (nodes_of a.c.nodes a.nodes.now)) c.in-Some.ensures.value c.in-Some.ensures.some
    in
    omega (arith, ap length (step).rest)

pub loop-h-preserved : goal.loop-h-preserved
loop-h-preserved c =
    let step : Step c.loop-h.above (live_segments (nodes_of c.args.c.nodes c.args.nodes.now)) c.in-Some.h.packed =
    let a = c.args in
    next-step c.loop-h.above c.in-Some.h.packed (segments_sorted (nodes_of a.c.nodes a.nodes.now)) c.in-Some.ensures.value c.in-Some.ensures.some
    in
    let a = c.args in
    filling_next c.loop-h.invariant (lines_more (table_line (graph_of a.nodes.now [] [] a.c) (list_of a.rules.now a.steps.now a.u)) (step).rest) c.fill_old-place.ensures c.fill_old-place.auto.out
