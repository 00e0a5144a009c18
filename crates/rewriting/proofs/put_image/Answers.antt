use Prim.Native.Nat.{ℕ, ◌+◌, ◌≤◌}
use mathlib.Core.Path.{◌≡◌, ◌∙◌, subst}
use mathlib.Core.List.{List}
use native.Mathlib.Omega.{arith}
use lib.ListN.{length}
use Rattle.kit.specs.Put.{Put}
use Rattle.groups.specs.Groups.{numbers}
use Rattle.events.specs.Events.{rule, steps_of}
use Rattle.rewriting.specs.Rewriting.{nodes_on}
use Rattle.rewriting.specs.Measure.{towards}
use Rattle.rewriting.proofs.Tables.{length-on}
use Rattle.rewriting.proofs.Images.{length-numbers, length-towards}
use Rattle.kit.proofs.Writes.{putting_none, putting_next, putting_all}
use Rattle.rewriting.proofs.put_image.Goals as goal

module _ (total : ℕ) (steps : List ℕ) (first count : ℕ) (h : first + count ≤ total) (d : ℕ) where
  size : length (numbers (towards d (nodes_on (steps_of total steps) (rule 0 0 first count)))) ≡ count
  size =
      let on = nodes_on (steps_of total steps) (rule 0 0 first count) in
      length-numbers (towards d on) ∙ length-towards d on ∙ length-on total steps first count h

  written : (at : ℕ) {out m : List ℕ} → Put out at (numbers (towards d (nodes_on (steps_of total steps) (rule 0 0 first count)))) m (at + length (numbers (towards d (nodes_on (steps_of total steps) (rule 0 0 first count))))) → Put out at (numbers (towards d (nodes_on (steps_of total steps) (rule 0 0 first count)))) m (at + count)
  written at {out} {m} p = subst (λ (k : ℕ). Put out at (numbers (towards d (nodes_on (steps_of total steps) (rule 0 0 first count)))) m (at + k)) size p

pub loop-j-init : goal.loop-j-init
loop-j-init c =
    let a = c.args in
    putting_none (numbers (towards a.direction (nodes_on (steps_of a.total a.steps.now) (rule 0 0 a.first a.count)))) a.at a.out.now

pub loop-j-preserved : goal.loop-j-preserved
loop-j-preserved c =
    let a = c.args in
    putting_next c.loop-j.invariant c.image_step.result c.image_step.ensures (omega (arith, size a.total a.steps.now a.first a.count (omega arith) a.direction))

pub returns : goal.returns
returns c =
    let a = c.args in
    written a.total a.steps.now a.first a.count (omega arith) a.direction a.at (putting_all c.loop-j.invariant (omega (arith, size a.total a.steps.now a.first a.count (omega arith) a.direction)))
