use mathlib.Core.Path.{ap, ap₂, ◌∙◌}
use Rattle.handle.specs.declared.Handle.{Handle}
use Rattle.sides.specs.Search.{lower}
use Rattle.choosing.proofs.lower_of_both.Goals as goal

pub returns : goal.returns
returns c =
    let a = c.args in
    c.lower-2.ensures
    ∙ ap₂ (lower a.above) (ap (λ (h : Handle). h.packed) c.forward-there.ensures) (c.lower.ensures ∙ ap (λ (h : Handle). lower a.above h.packed a.best) c.reverse-back.ensures)
