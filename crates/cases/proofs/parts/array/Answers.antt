use mathlib.Core.Path.{ap, ◌∙◌}
use Rattle.cases.specs.Parts.{elements_of}
use Rattle.cases.proofs.parts.array.Goals as goal

pub returns : goal.returns
returns c = c.elements.ensures ∙ ap elements_of c.place-at.ensures
