use mathlib.Core.Path.{ap}
use native.Mathlib.Omega.{arith}
use lib.ListN.{length}
use Rattle.sides.specs.Sides.{bare}
use Rattle.sides.specs.Search.{side_of}
use Rattle.sides.proofs.Rising.{rest_all, next-step, next_end}
use Rattle.sides.proofs.Search.{side_sorted}
use Rattle.sides.proofs.Sides.{side_number}
use Rattle.sides.proofs.count_side.Goals as goal

pub loop-u-init : goal.loop-u-init
loop-u-init c =
    let a = c.args in
    let g = bare a.nodes.now a.links.now a.c in
    (omega arith, omega (arith, ap length (rest_all 0 (side_of a.left g a.v) (side_number a.left g a.v c.requires.nodes_value))))

pub returns : goal.returns
returns c =
    let a = c.args in
    omega (arith, ap length (next_end c.loop-u.above (side_of a.left (bare a.nodes.now a.links.now a.c) a.v) c.in_default.ensures.value))

pub overflow_add-n : goal.overflow_add-n
overflow_add-n c =
    let a = c.args in
    let s = next-step c.loop-u.above c.in-Some.u.packed (side_sorted a.left (bare a.nodes.now a.links.now a.c) a.v) c.in-Some.ensures.value c.in-Some.ensures.some in
    omega (arith, s.higher)

pub loop-u-smaller : goal.loop-u-smaller
loop-u-smaller c =
    let a = c.args in
    let s = next-step c.loop-u.above c.in-Some.u.packed (side_sorted a.left (bare a.nodes.now a.links.now a.c) a.v) c.in-Some.ensures.value c.in-Some.ensures.some in
    omega (arith, ap length s.rest)

pub loop-u-preserved : goal.loop-u-preserved
loop-u-preserved c =
    let a = c.args in
    let s = next-step c.loop-u.above c.in-Some.u.packed (side_sorted a.left (bare a.nodes.now a.links.now a.c) a.v) c.in-Some.ensures.value c.in-Some.ensures.some in
    (omega (arith, s.higher), omega (arith, ap length s.rest))
