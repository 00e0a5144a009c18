use mathlib.Core.Path.{sym, ◌∙◌}
use borrow.Author.Tests.{not-true, not-false}
use Rattle.checking.specs.CheckTransform.{lent}
use Rattle.collapsing.specs.Outcome as collapsing
use Rattle.desk.proofs.Stages.{refusal-inside, no_run, drives}
use Rattle.desk.proofs.work.drive_then.Goals as goal

pub returns-then-not-goes_on : goal.returns-then-not-goes_on
returns-then-not-goes_on c =
    let a = c.args in
    record { table_after = no_run a.text.now (lent a.old_nodes.now a.letters.now a.old_links.now a.c) (collapsing.lent a.nodes.now a.links.now a.event_rules.now a.event_steps.now) a.protected.now a.check a.rules.now a.steps.now a.page.now a.table.now _ _ c.collapse_all-r.ensures _ c.refuse.ensures (sym c.goes_on.ensures ∙ not-true _ c.if-not-goes_on.true-raw); page_in_bounds = refusal-inside _ _ _ _ _ c.refuse.ensures }

pub shape_of-nodes : goal.shape_of-nodes
shape_of-nodes c = c.nodes-1.given

pub shape_of-links : goal.shape_of-links
shape_of-links c = c.links-1.given

pub returns : goal.returns
returns c =
    let a = c.args in
    record { table_after = drives a.text.now (lent a.old_nodes.now a.letters.now a.old_links.now a.c) (collapsing.lent a.nodes.now a.links.now a.event_rules.now a.event_steps.now) a.protected.now a.check a.rules.now a.steps.now a.page.now a.table.now _ _ c.collapse_all-r.ensures _ c.expand_then.ensures.table_after (sym c.goes_on.ensures ∙ not-false _ c.if-not-goes_on.false-raw); page_in_bounds = c.expand_then.ensures.page_in_bounds }
