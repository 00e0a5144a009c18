use mathlib.Core.Path.{◌∙◌}
use borrow.Author.Tests.{le-ltb}
use Rattle.face.proofs.Parts.{begins, empty_begins}
use Rattle.face.proofs.parse_header.begins_with_h.Goals as goal

pub returns-then-at-end : goal.returns-then-at-end
returns-then-at-end c = begins c.requires c.if-at-end.true

pub returns-else-at-end : goal.returns-else-at-end
returns-else-at-end c =
    let a = c.args in
    le-ltb a.at a.end c.if-at-end.false ∙ empty_begins c.requires c.if-at-end.false
