use mathlib.Core.Path.{ap}
use native.Mathlib.Omega.{arith}
use lib.ListN.{length}
use Rattle.store.specs.Graph.{Graph, graph_of}
use Rattle.sides.proofs.Rising.{next-step, next_end}
use Rattle.groups.specs.Groups.{same_key}
use Rattle.groups.specs.Search.{of_key}
use Rattle.groups.proofs.Along.{part-all, key_sorted}
use Rattle.groups.proofs.count_of_key.Goals as goal

pub loop-w-init : goal.loop-w-init
loop-w-init c =
    let a = c.args in
    let g : Graph = graph_of a.nodes.now a.text.now a.links.now a.c in
    (omega arith, omega (arith, ap length (part-all a.nodes.now a.text.now a.links.now a.c c.requires (same_key g a.u) a.v)))

pub returns : goal.returns
returns c =
    let a = c.args in
    let g : Graph = graph_of a.nodes.now a.text.now a.links.now a.c in
    omega (arith, ap length (next_end c.loop-w.above (of_key g a.v a.u) c.in_default.ensures.value))

pub overflow_add-n : goal.overflow_add-n
overflow_add-n c =
    let a = c.args in
    let g : Graph = graph_of a.nodes.now a.text.now a.links.now a.c in
    let s = next-step c.loop-w.above c.in-Some.w.packed (key_sorted g a.v a.u) c.in-Some.ensures.value c.in-Some.ensures.some in
    omega (arith, s.higher)

pub loop-w-smaller : goal.loop-w-smaller
loop-w-smaller c =
    let a = c.args in
    let g : Graph = graph_of a.nodes.now a.text.now a.links.now a.c in
    let s = next-step c.loop-w.above c.in-Some.w.packed (key_sorted g a.v a.u) c.in-Some.ensures.value c.in-Some.ensures.some in
    omega (arith, ap length s.rest)

pub loop-w-preserved : goal.loop-w-preserved
loop-w-preserved c =
    let a = c.args in
    let g : Graph = graph_of a.nodes.now a.text.now a.links.now a.c in
    let s = next-step c.loop-w.above c.in-Some.w.packed (key_sorted g a.v a.u) c.in-Some.ensures.value c.in-Some.ensures.some in
    (omega (arith, s.higher), omega (arith, ap length s.rest))
