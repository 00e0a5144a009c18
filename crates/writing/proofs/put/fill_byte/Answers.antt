use borrow.Author.Rules.{rules}
use Rattle.writing.proofs.Filling.{not-filled}
use Rattle.writing.proofs.put.fill_byte.Goals as goal

pub returns-then-out-at : goal.returns-then-out-at
returns-then-out-at c = not-filled (search rules) (search rules)
