use native.Mathlib.Omega.{arith}
use borrow.Author.Rules.{rules}
use Rattle.drawing.proofs.Capping.{capping_next, capping_all}
use Rattle.drawing.proofs.Fielding.{fields_none, fields_more, fields_end}
use Rattle.drawing.proofs.cap.add_fields.Goals as goal

pub loop-k-init : goal.loop-k-init
loop-k-init c = fields_none c.args.n c.args.line.now c.requires

pub loop-k-preserved : goal.loop-k-preserved
loop-k-preserved c =
    let a = c.args in
    capping_next c.loop-k.invariant (fields_more a.n a.line.now c.loop-k.k (omega arith)) c.add_field-place.ensures (search rules)

pub returns : goal.returns
returns c =
    let a = c.args in
    capping_all c.loop-k.invariant (fields_end a.n a.line.now c.loop-k.k (omega arith))
