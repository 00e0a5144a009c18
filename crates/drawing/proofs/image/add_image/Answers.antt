use Prim.Native.Nat.{ℕ, ◌+◌, ◌≤◌}
use mathlib.Core.Path.{◌≡◌, ◌∙◌}
use mathlib.Core.List.{List}
use native.Mathlib.Omega.{arith}
use borrow.Author.Rules.{rules}
use lib.ListN.{length, drop_of_length-le}
use Rattle.events.specs.Events.{rule, steps_of}
use Rattle.rewriting.specs.Rewriting.{nodes_on}
use Rattle.rewriting.specs.Measure.{towards}
use Rattle.rewriting.proofs.Tables.{length-on}
use Rattle.rewriting.proofs.Images.{length-towards}
use Rattle.drawing.proofs.Drawing.{drawing-next, drawing-all, image-more}
use Rattle.drawing.proofs.image.add_image.Goals as goal

size : (total : ℕ) (steps : List ℕ) (first count d : ℕ) → first + count ≤ total → length (towards d (nodes_on (steps_of total steps) (rule 0 0 first count))) ≡ count
size total steps first count d h = length-towards d (nodes_on (steps_of total steps) (rule 0 0 first count)) ∙ length-on total steps first count h

pub loop-j-preserved : goal.loop-j-preserved
loop-j-preserved c =
    let a = c.args in
    let all = towards a.direction (nodes_on (steps_of a.total a.steps.now) (rule 0 0 a.first a.count)) in
    drawing-next c.loop-j.invariant (image-more all c.loop-j.j c.image_step-step.result (omega (arith, size a.total a.steps.now a.first a.count a.direction (omega arith))) c.image_step-step.ensures) c.add_step-pen.ensures (search rules)

pub returns : goal.returns
returns c =
    let a = c.args in
    let all = towards a.direction (nodes_on (steps_of a.total a.steps.now) (rule 0 0 a.first a.count)) in
    drawing-all c.loop-j.invariant (drop_of_length-le all {i = c.loop-j.j} (omega (arith, size a.total a.steps.now a.first a.count a.direction (omega arith))))
