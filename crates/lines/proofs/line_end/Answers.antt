use Rattle.lines.proofs.line_end.Goals as goal

pub returns : goal.returns
returns c = c.piece_end.ensures
