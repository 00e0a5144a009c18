use mathlib.Core.Path.{◌≡◌, sym, ◌∙◌}
use borrow.Author.Rules.{rules}
use borrow.Author.Tests.{eq-eqb}
use Rattle.kit.specs.Refusal.{number}
use Rattle.kit.proofs.Refusals.{number_not_0, refused_is}
use Rattle.affix.specs.Prefix.{handles_of}
use Rattle.collapsing.specs.Outcome.{lent, room_of, state_in}
use Rattle.collapsing.specs.Ready.{ready_number}
use Rattle.collapsing.proofs.Outcomes.{number-early}
use Rattle.collapsing.proofs.collapse_group.Goals as goal

pub returns-in-Err : goal.returns-in-Err
returns-in-Err c =
    let a = c.args in
    let l = lent a.nodes.now a.links.now a.rules.now a.steps.now in
    let s = state_in l a.text.now a.c a.u in
    let ms = handles_of a.members.now in
    let e = refused_is c.ready_number.ensures c.in-Err.is in
    let some : ready_number (room_of l) a.p s ms ≡ 0 → ⊥ =
    λ z. let none = eq-eqb (number c.in-Err.why) 0 (sym e ∙ z) in let not_none = number_not_0 c.in-Err.why in cc
    in
    rw (c.refuse.ensures, c.number.ensures, number-early (room_of l) a.p s ms some, e, number_not_0 c.in-Err.why)

pub collapse_ready-requires-clause-c_value : goal.collapse_ready-requires-clause-c_value
collapse_ready-requires-clause-c_value c = (c.requires.c_value.0, c.requires.c_value.1, search rules)
