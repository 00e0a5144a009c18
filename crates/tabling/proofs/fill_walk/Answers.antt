use native.Mathlib.Omega.{arith}
use Prim.Native.Nat.{◌+◌, ◌*◌}
use lib.ListN.{drop, get_or}
use Rattle.kit.specs.Loops.{lines}
use Rattle.store.specs.Graph.{handle}
use Rattle.events.specs.Events.{rule, steps_of}
use Rattle.rewriting.specs.Rewriting.{nodes_on}
use Rattle.writing.specs.Marks.{walk_step, walk_text}
use Rattle.writing.proofs.Filling.{filling_none, filling_fits, filling_next, filling_all}
use Rattle.tabling.proofs.Rows.{walk_more, walk_end}
use Rattle.tabling.proofs.fill_walk.Goals as goal

pub loop-j-init : goal.loop-j-init
unfolding walk_text
loop-j-init c =
    let a = c.args in
    filling_none a.out.now a.at (walk_text (nodes_on (steps_of a.total a.steps.now) (rule 0 0 a.first a.count)))

pub fill_step-place-requires : goal.fill_step-place-requires
fill_step-place-requires c =
    let a = c.args in
    rw c.at.ensures (filling_fits (walk_step (handle (get_or a.steps.now (2 * (a.first + c.loop-j.j)) 0))) (lines walk_step (drop (c.loop-j.j + 1) (nodes_on (steps_of a.total a.steps.now) (rule 0 0 a.first a.count)))) c.loop-j.invariant (walk_more a.total a.steps.now a.first a.count c.requires.total_in_bounds.1 c.loop-j.j (omega arith)) c.requires.count_bound)

pub loop-j-preserved : goal.loop-j-preserved
loop-j-preserved c =
    let a = c.args in
    filling_next c.loop-j.invariant (walk_more a.total a.steps.now a.first a.count c.requires.total_in_bounds.1 c.loop-j.j (omega arith)) (rw c.at.ensures at c.fill_step-place.ensures) c.fill_step-place.auto.out

pub shape_of-out : goal.shape_of-out
shape_of-out c = c.loop-j.invariant.same

pub returns : goal.returns
returns c =
    let a = c.args in
    filling_all c.loop-j.invariant (walk_end a.total a.steps.now a.first a.count c.requires.total_in_bounds.1 c.loop-j.j (omega arith))
