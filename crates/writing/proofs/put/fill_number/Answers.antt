use borrow.Author.Rules.{rules}
use Rattle.writing.proofs.Filling.{not-filled}
use Rattle.writing.proofs.put.fill_number.Goals as goal

pub returns-then-out-end : goal.returns-then-out-end
returns-then-out-end c = not-filled (search rules) (search rules)
