use mathlib.Core.Path.{sym, ◌∙◌}
use borrow.Author.Tests.{eq-eqb, ne_eqb}
use Rattle.merging.proofs.parts.suffix_of.Goals as goal

pub returns-then-direction-eq-FORWARD : goal.returns-then-direction-eq-FORWARD
returns-then-direction-eq-FORWARD c = rw (eq-eqb _ _ (sym c.direction.ensures ∙ c.if-direction-eq-FORWARD.true)) c.forward.ensures

pub returns : goal.returns
returns c = rw (ne_eqb _ _ (λ q. c.if-direction-eq-FORWARD.false (c.direction.ensures ∙ q)))
