use borrow.Author.Tests.{lt-ltb, le-ltb}
use Rattle.collapsing.proofs.link_room.Goals as goal

pub returns-then-len-lt393216 : goal.returns-then-len-lt393216
returns-then-len-lt393216 c = rw (lt-ltb _ 393216 c.if-len-lt393216.true)

pub returns : goal.returns
returns c = rw (le-ltb _ 393216 c.if-len-lt393216.false)
