use borrow.Author.Tests.{lt-ltb, le-ltb}
use Rattle.desk.specs.Desk.{taken_outcome}
use Rattle.desk.proofs.taking.take_in.Goals as goal

pub returns-then-text-gt-MOST_TEXT : goal.returns-then-text-gt-MOST_TEXT
unfolding taken_outcome
returns-then-text-gt-MOST_TEXT c = rw (lt-ltb _ _ c.if-text-gt-MOST_TEXT.true)

pub returns : goal.returns
unfolding taken_outcome
returns c = rw (le-ltb _ _ c.if-text-gt-MOST_TEXT.false) c.read_gfa.ensures
