use mathlib.Core.Path.{sym, ◌∙◌}
use Rattle.sides.proofs.same_left.Goals as goal

pub returns-then-left_in : goal.returns-then-left_in
returns-then-left_in c = rw (sym c.left_in.ensures ∙ c.if-left_in.true) c.left_in-then-left_in.ensures

pub returns-else-left_in : goal.returns-else-left_in
returns-else-left_in c = rw (sym c.left_in.ensures ∙ c.if-left_in.false) c.if-left_in.false
