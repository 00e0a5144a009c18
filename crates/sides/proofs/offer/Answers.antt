use borrow.Author.Tests.{not-true, not-false}
use Rattle.sides.proofs.offer.Goals as goal

pub returns-then-not-given : goal.returns-then-not-given
returns-then-not-given c = rw (not-true c.args.given c.if-not-given.true-raw)

pub returns : goal.returns
returns c = rw (not-false c.args.given c.if-not-given.false-raw) c.lower.ensures
