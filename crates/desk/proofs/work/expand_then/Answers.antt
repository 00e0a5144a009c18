use Rattle.checking.specs.CheckTransform.{lent}
use Rattle.desk.proofs.Stages.{refusal-inside, no_expansion, expands}
use Rattle.desk.proofs.work.expand_then.Goals as goal

pub returns-then-e-ne0 : goal.returns-then-e-ne0
returns-then-e-ne0 c =
    let a = c.args in
    record { table_after = no_expansion a.text.now (lent a.old_nodes.now a.letters.now a.old_links.now a.c) (lent a.nodes.now a.letters.now a.links.now a.d) a.event_rules.now a.event_steps.now a.u a.protected.now a.check a.stopped a.rules.now a.steps.now a.page.now a.table.now _ _ _ c.expand-e.ensures _ c.refuse.ensures c.if-e-ne0.true; page_in_bounds = refusal-inside _ _ _ _ _ c.refuse.ensures }

pub returns : goal.returns
returns c =
    let a = c.args in
    record { table_after = expands a.text.now (lent a.old_nodes.now a.letters.now a.old_links.now a.c) (lent a.nodes.now a.letters.now a.links.now a.d) a.event_rules.now a.event_steps.now a.u a.protected.now a.check a.stopped a.rules.now a.steps.now a.page.now a.table.now _ _ _ c.expand-e.ensures _ c.tell.ensures.table_after c.if-e-ne0.false; page_in_bounds = c.tell.ensures.page_in_bounds }
