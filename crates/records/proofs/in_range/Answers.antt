use borrow.Author.Tests.{le-leb, lt-leb}
use Rattle.records.proofs.in_range.Goals as goal

pub returns-then-id-lt1 : goal.returns-then-id-lt1
returns-then-id-lt1 c = rw (lt-leb 1 c.args.id c.if-id-lt1.true)

pub returns-then-id-gt-MAX_ID : goal.returns-then-id-gt-MAX_ID
returns-then-id-gt-MAX_ID c = let a = c.args in rw (le-leb 1 a.id c.if-id-lt1.false, lt-leb a.id 4294967295 c.if-id-gt-MAX_ID.true)

pub returns : goal.returns
returns c = let a = c.args in rw (le-leb 1 a.id c.if-id-lt1.false, le-leb a.id 4294967295 c.if-id-gt-MAX_ID.false)
