use borrow.Author.Tests.{not-true, not-false}
use Rattle.desk.proofs.judging.judge.Goals as goal

pub returns-then-not-check : goal.returns-then-not-check
returns-then-not-check c = rw (not-true c.args.check c.if-not-check.true-raw)

pub returns : goal.returns
returns c = rw (not-false c.args.check c.if-not-check.false-raw) c.check_transform.ensures
