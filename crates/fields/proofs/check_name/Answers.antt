use mathlib.Core.Path.{◌≡◌, sym, ◌∙◌}
use mathlib.Core.Bool.{false, cond}
use borrow.Author.Tests.{not-true}
use Rattle.text.specs.Names.{is_name}
use Rattle.text.proofs.StepNumbers.{no_name}
use Rattle.text.proofs.Refusing.{or_passed}
use Rattle.fields.proofs.check_name.Goals as goal

pub returns-then-name_id-eq0 : goal.returns-then-name_id-eq0
returns-then-name_id-eq0 c =
    let f = c.args.f.now in
    let none : is_name f ≡ false = not-true (is_name f) (no_name f (sym c.name_id.ensures ∙ c.if-name_id-eq0.true)) in
    sym (or_passed c.check_filled.ensures (cond (is_name f) 0 2) c.in_ok-check_filled.was ∙ rw none)
