use mathlib.Core.Path.{sym}
use Rattle.text.proofs.Cuts.{has_separator}
use Rattle.text.proofs.pieces.has_return.Goals as goal

pub returns : goal.returns
returns c = sym (has_separator c.piece_end.ensures)
