use mathlib.Core.List.{[]}
use native.Mathlib.Omega.{arith}
use Rattle.store.specs.Graph.{graph_of}
use Rattle.affix.proofs.LookedUp.{inside}
use Rattle.writing.proofs.Texts.{segment_fits, segment_filled, forward-letters}
use Rattle.writing.proofs.graph.fill_segment.Goals as goal

pub overflow_add-end : goal.overflow_add-end
overflow_add-end c =
    let a = c.args in
    omega (arith, inside a.nodes.now a.text.now a.c c.requires.readable.0 a.h c.look_up-r.result c.look_up-r.ensures)

pub slice_bounds-fill_node-end : goal.slice_bounds-fill_node-end
slice_bounds-fill_node-end c =
    let a = c.args in
    inside a.nodes.now a.text.now a.c c.requires.readable.0 a.h c.look_up-r.result c.look_up-r.ensures

pub fill_node-requires : goal.fill_node-requires
fill_node-requires c =
    let a = c.args in
    segment_fits (graph_of a.nodes.now a.text.now [] a.c) a.h a.at c.id.result _ c.id.ensures (forward-letters a.nodes.now a.text.now a.c c.requires.readable.0 a.h c.requires.readable.1 c.look_up-r.result c.look_up-r.ensures) c.requires.h_bound

pub returns : goal.returns
returns c =
    let a = c.args in
    segment_filled (graph_of a.nodes.now a.text.now [] a.c) a.h a.at c.id.result _ c.id.ensures (forward-letters a.nodes.now a.text.now a.c c.requires.readable.0 a.h c.requires.readable.1 c.look_up-r.result c.look_up-r.ensures) c.fill_node.ensures
