use mathlib.Core.Path.{sym, ◌∙◌}
use Rattle.merging.proofs.copies.dim_mark.Goals as goal

pub returns-then-live_link : goal.returns-then-live_link
returns-then-live_link c = rw (sym c.live_link.ensures ∙ c.if-live_link.true)

pub returns : goal.returns
returns c = rw (sym c.live_link.ensures ∙ c.if-live_link.false)
