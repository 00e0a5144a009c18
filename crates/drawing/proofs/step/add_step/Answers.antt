use Prim.Native.Nat.{◌^◌, ◌<◌}
use mathlib.Core.Path.{sym}
use mathlib.Core.List.{append-nil}
use native.Mathlib.Omega.{arith}
use borrow.Author.Rules.{rules}
use Rattle.drawing.specs.Drawn.{step_text}
use Rattle.drawing.proofs.Capping.{filled-capped, capped_is}
use Rattle.drawing.proofs.Drawing.{step_short}
use Rattle.drawing.proofs.step.add_step.Goals as goal

pub fill_step-end-requires : goal.fill_step-end-requires
fill_step-end-requires c =
    let a = c.args in
    let k : a.h.packed < 2 ^ 64 = search rules in
    omega (arith, step_short a.h k a.pen.mark)

pub returns : goal.returns
returns c =
    let a = c.args in
    record {
      written = capped_is (sym (append-nil (step_text a.pen.mark a.h))) (filled-capped c.fill_step-end.ensures (search rules) c.cap.ensures);
      next = c.later.ensures;
    }
