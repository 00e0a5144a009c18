use mathlib.Core.Path.{ap, ◌∙◌}
use borrow.Author.Tests.{ne_eqb}
use Rattle.handle.specs.Handle.{same_handle}
use Rattle.events.specs.declared.Step.{Step}
use Rattle.tabling.proofs.Rows.{itself_not, itself_one}
use Rattle.tabling.proofs.just_itself.Goals as goal

pub returns-then-count-eq1 : goal.returns-then-count-eq1
returns-then-count-eq1 c =
    let a = c.args in
    c.eq.ensures
    ∙ ap (λ (s : Step). same_handle a.h s.node) c.at.ensures
    ∙ itself_one a.total a.steps.now a.first a.count c.requires.1 a.h c.if-count-eq1.true

pub returns-else-count-eq1 : goal.returns-else-count-eq1
returns-else-count-eq1 c =
    let a = c.args in
    ne_eqb _ _ c.if-count-eq1.false ∙ itself_not a.total a.steps.now a.first a.count c.requires.1 a.h c.if-count-eq1.false
