use mathlib.Core.Path.{sym, ap, ◌∙◌}
use Rattle.handle.specs.Handle.{same_handle}
use Rattle.linking.proofs.read_as.Goals as goal

pub returns-then-eq : goal.returns-then-eq
returns-then-eq c = rw (sym c.eq.ensures ∙ c.if-eq.true)

pub returns-then-eq-2 : goal.returns-then-eq-2
returns-then-eq-2 c = rw (sym c.eq.ensures ∙ c.if-eq.false, ap (same_handle c.args.y) (sym c.flip-flip_m.ensures) ∙ sym c.eq-2.ensures ∙ c.if-eq-2.true) c.flip-flip_x.ensures

pub returns : goal.returns
returns c = rw (sym c.eq.ensures ∙ c.if-eq.false, ap (same_handle c.args.y) (sym c.flip-flip_m.ensures) ∙ sym c.eq-2.ensures ∙ c.if-eq-2.false)
