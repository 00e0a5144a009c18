use mathlib.Core.Path.{sym, ap, ◌∙◌}
use Rattle.std.proofs.lemmas.Result.{err_from_is_err_and}
use Rattle.text.specs.Names.{name_id}
use Rattle.reading.proofs.Lines.{one_faulty, one-other, one_segment}
use Rattle.reading.proofs.pass_one.pass_one_line.Goals as goal

pub returns-in_err-check_line-clause-on_segments : goal.returns-in_err-check_line-clause-on_segments
returns-in_err-check_line-clause-on_segments c =
    let p = err_from_is_err_and c.from_residual.result c.from_residual.ensures.1 in
    λ links l g h. rw (p.1, p.2) (one_faulty h c.args.line.now c.check_line.ensures c.in_err-check_line.was)

pub returns-then-not-is_line-clause-on_segments : goal.returns-then-not-is_line-clause-on_segments
returns-then-not-is_line-clause-on_segments c =
    λ links l g h. one-other h c.args.line.now c.check_line.ensures c.in_ok-check_line.was (sym c.is_line.ensures ∙ c.if-not-is_line.true)

pub returns-clause-on_segments : goal.returns-clause-on_segments
returns-clause-on_segments c =
    λ links l g h.
    one_segment h c.args.line.now c.check_line.ensures c.in_ok-check_line.was (sym c.is_line.ensures ∙ c.if-not-is_line.false)
    (c.name_id-id.ensures ∙ ap name_id c.field.ensures)
    c.field-2.ensures
    (c.add_segment.ensures.on_segments links l g h)
