use mathlib.Core.Path.{sym, ◌∙◌}
use Rattle.split.proofs.moved.Goals as goal

pub returns-then-eq : goal.returns-then-eq
returns-then-eq c = rw (sym c.eq.ensures ∙ c.if-eq.true)

pub returns : goal.returns
returns c = rw (sym c.eq.ensures ∙ c.if-eq.false)
