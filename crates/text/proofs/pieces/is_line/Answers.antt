use mathlib.Core.Path.{sym, ◌∙◌}
use borrow.Author.Tests.{ne_eqb}
use Rattle.text.proofs.Cuts.{line_other, line-one}
use Rattle.text.proofs.pieces.is_line.Goals as goal

pub returns-then-piece_end-eq1 : goal.returns-then-piece_end-eq1
returns-then-piece_end-eq1 c = sym (line-one c.args.letter c.piece_end.ensures c.if-piece_end-eq1.true)

pub returns-else-piece_end-eq1 : goal.returns-else-piece_end-eq1
returns-else-piece_end-eq1 c =
    let r = c.piece_end in
    ne_eqb r.result 1 c.if-piece_end-eq1.false ∙ sym (line_other c.args.letter r.ensures c.if-piece_end-eq1.false)
