use mathlib.Core.Path.{sym, ap, ◌∙◌}
use Rattle.text.specs.Pieces.{fields_of}
use Rattle.text.specs.Fields.{filled}
use Rattle.text.proofs.Refusing.{or_passed}
use Rattle.fields.proofs.Shapes.{walk_next}
use Rattle.fields.proofs.check_walk_line.Goals as goal

pub loop-k-preserved : goal.loop-k-preserved
loop-k-preserved c =
    let next = walk_next (fields_of c.args.line.now) c.loop-k.k c.loop-k-test.true in
    sym (next ∙ or_passed (c.check_filled.ensures ∙ ap filled c.field.ensures) _ c.in_ok-check_filled.was) ∙ c.loop-k.invariant
