use mathlib.Core.Path.{sym, ◌∙◌}
use borrow.Author.Tests.{eq-eqb, ne_eqb, not-true, not-false}
use Rattle.writing.proofs.along.sooner.Goals as goal

pub returns-then-not-before : goal.returns-then-not-before
returns-then-not-before c = rw (sym c.before-2.ensures ∙ not-true c.before-2.result c.if-not-before.true-raw)

pub returns-then-from-eq0 : goal.returns-then-from-eq0
returns-then-from-eq0 c = rw (sym c.before-2.ensures ∙ not-false c.before-2.result c.if-not-before.false-raw, eq-eqb _ _ c.if-from-eq0.true)

pub returns-then-before : goal.returns-then-before
returns-then-before c = rw (sym c.before-2.ensures ∙ not-false c.before-2.result c.if-not-before.false-raw, ne_eqb _ _ c.if-from-eq0.false, sym c.before-3.ensures ∙ c.if-before.true)

pub returns : goal.returns
returns c = rw (sym c.before-2.ensures ∙ not-false c.before-2.result c.if-not-before.false-raw, ne_eqb _ _ c.if-from-eq0.false, sym c.before-3.ensures ∙ c.if-before.false)
