use native.Mathlib.Omega.{arith}
use Rattle.std.proofs.lemmas.Grind.{common_steps}
use mathlib.Core.Path.{◌≡◌, sym, ◌∙◌}
use mathlib.Core.Bool.{false}
use borrow.Author.Tests.{not-true}
use Rattle.text.specs.Names.{is_name}
use Rattle.text.proofs.StepNumbers.{no_name}
use Rattle.text.proofs.steps.check_path_step.Goals as goal

pub returns-then-name_id-eq0 : goal.returns-then-name_id-eq0
returns-then-name_id-eq0 c =
    let name = c.in-Some.name.now in
    let none : is_name name ≡ false = not-true (is_name name) (no_name name (sym c.name_id.ensures ∙ c.if-name_id-eq0.true)) in
    grind (arith, common_steps, none)
