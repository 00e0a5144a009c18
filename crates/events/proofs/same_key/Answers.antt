use borrow.Author.Tests.{eq-eqb, ne_eqb}
use Rattle.events.proofs.same_key.Goals as goal

pub returns-then-id-other : goal.returns-then-id-other
returns-then-id-other c = rw (eq-eqb _ _ c.if-id-other.true)

pub returns-else-id-other : goal.returns-else-id-other
returns-else-id-other c = rw (ne_eqb _ _ c.if-id-other.false)
