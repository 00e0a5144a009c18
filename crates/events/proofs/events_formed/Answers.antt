use mathlib.Core.Path.{sym, ◌∙◌}
use borrow.Author.Tests.{not-true, not-false}
use Rattle.events.proofs.Says.{table-room}
use Rattle.events.proofs.events_formed.Goals as goal

pub returns-then-not-table_formed : goal.returns-then-not-table_formed
returns-then-not-table_formed c = rw (sym c.table_formed.ensures ∙ not-true _ c.if-not-table_formed.true-raw)

pub have_steps-requires : goal.have_steps-requires
have_steps-requires c =
    let a = c.args in
    (table-room a.rules.now a.steps.now a.c (sym c.table_formed.ensures ∙ not-false _ c.if-not-table_formed.false-raw)).rule_room

pub returns : goal.returns
returns c = rw (sym c.table_formed.ensures ∙ not-false _ c.if-not-table_formed.false-raw) c.have_steps.ensures
