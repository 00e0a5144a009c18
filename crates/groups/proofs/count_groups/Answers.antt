use mathlib.Core.Path.{ap}
use native.Mathlib.Omega.{arith}
use lib.ListN.{length, length-map}
use Rattle.store.specs.Graph.{Graph, graph_of}
use Rattle.sides.specs.Sides.{right_of}
use Rattle.sides.proofs.Rising.{next-step, next_end}
use Rattle.groups.specs.Groups.{group_of}
use Rattle.groups.specs.Search.{heads_of}
use Rattle.groups.proofs.Along.{heads-all, heads_sorted}
use Rattle.groups.proofs.count_groups.Goals as goal

pub loop-u-init : goal.loop-u-init
loop-u-init c =
    let a = c.args in
    (omega arith, omega (arith, ap length (heads-all a.nodes.now a.text.now a.links.now a.c c.requires a.v)))

pub returns : goal.returns
returns c =
    let a = c.args in
    let g : Graph = graph_of a.nodes.now a.text.now a.links.now a.c in
    omega (arith, ap length (next_end c.loop-u.above (heads_of g a.v) c.in_default.ensures.value), length-map (heads_of g a.v) (group_of g (right_of g a.v)))

pub overflow_add-n : goal.overflow_add-n
overflow_add-n c =
    let a = c.args in
    let g : Graph = graph_of a.nodes.now a.text.now a.links.now a.c in
    let s = next-step c.loop-u.above c.in-Some.u.packed (heads_sorted g a.v) c.in-Some.ensures.value c.in-Some.ensures.some in
    omega (arith, s.higher)

pub loop-u-smaller : goal.loop-u-smaller
loop-u-smaller c =
    let a = c.args in
    let g : Graph = graph_of a.nodes.now a.text.now a.links.now a.c in
    let s = next-step c.loop-u.above c.in-Some.u.packed (heads_sorted g a.v) c.in-Some.ensures.value c.in-Some.ensures.some in
    omega (arith, ap length s.rest)

pub loop-u-preserved : goal.loop-u-preserved
loop-u-preserved c =
    let a = c.args in
    let g : Graph = graph_of a.nodes.now a.text.now a.links.now a.c in
    let s = next-step c.loop-u.above c.in-Some.u.packed (heads_sorted g a.v) c.in-Some.ensures.value c.in-Some.ensures.some in
    (omega (arith, s.higher), omega (arith, ap length s.rest))
