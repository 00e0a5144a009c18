use mathlib.Core.Path.{sym, ◌∙◌}
use borrow.Author.Tests.{eq-eqb, ne_eqb, not-true, not-false}
use Rattle.merging.proofs.parts.prefix_of.Goals as goal

pub returns-then-not-long : goal.returns-then-not-long
returns-then-not-long c = rw (not-true c.args.long c.if-not-long.true-raw)

pub returns-then-direction-eq-FORWARD : goal.returns-then-direction-eq-FORWARD
returns-then-direction-eq-FORWARD c = rw (not-false c.args.long c.if-not-long.false-raw, eq-eqb _ _ (sym c.direction.ensures ∙ c.if-direction-eq-FORWARD.true))

pub reverse-requires : goal.reverse-requires
reverse-requires c = c.requires (not-false c.args.long c.if-not-long.false-raw)

pub returns : goal.returns
returns c = rw (not-false c.args.long c.if-not-long.false-raw, ne_eqb _ _ (λ q. c.if-direction-eq-FORWARD.false (c.direction.ensures ∙ q))) c.reverse.ensures
