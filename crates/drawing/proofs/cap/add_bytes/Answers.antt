use borrow.Author.Rules.{rules}
use Rattle.drawing.proofs.Capping.{filled-capped}
use Rattle.drawing.proofs.cap.add_bytes.Goals as goal

pub returns : goal.returns
returns c = filled-capped c.fill_bytes-end.ensures (search rules) c.cap.ensures
