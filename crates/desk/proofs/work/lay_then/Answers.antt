use mathlib.Core.Path.{◌∙◌}
use Rattle.checking.specs.CheckTransform.{lent}
use Rattle.collapsing.specs.Outcome as collapsing
use Rattle.desk.proofs.Stages.{refusal-inside, short_nodes, short_links, lays}
use Rattle.desk.proofs.work.lay_then.Goals as goal

pub returns-then-nodes-old_nodes : goal.returns-then-nodes-old_nodes
returns-then-nodes-old_nodes c =
    let a = c.args in
    record { table_after = short_nodes a.text.now (lent a.old_nodes.now a.letters.now a.old_links.now a.c) (collapsing.lent a.nodes.now a.links.now a.event_rules.now a.event_steps.now) a.protected.now a.check a.rules.now a.steps.now a.page.now a.table.now _ c.refuse.ensures c.if-nodes-old_nodes.true; page_in_bounds = refusal-inside _ _ _ _ _ c.refuse.ensures }

pub returns-then-links-old_links : goal.returns-then-links-old_links
returns-then-links-old_links c =
    let a = c.args in
    record { table_after = short_links a.text.now (lent a.old_nodes.now a.letters.now a.old_links.now a.c) (collapsing.lent a.nodes.now a.links.now a.event_rules.now a.event_steps.now) a.protected.now a.check a.rules.now a.steps.now a.page.now a.table.now c.if-nodes-old_nodes.false _ c.refuse-then-links-old_links.ensures c.if-links-old_links.true; page_in_bounds = refusal-inside _ _ _ _ _ c.refuse-then-links-old_links.ensures }

pub shape_of-nodes : goal.shape_of-nodes
shape_of-nodes c = c.nodes-2-1.given ∙ c.nodes-1.given

pub returns : goal.returns
returns c =
    let a = c.args in
    record { table_after = lays a.text.now (lent a.old_nodes.now a.letters.now a.old_links.now a.c) (collapsing.lent a.nodes.now a.links.now a.event_rules.now a.event_steps.now) a.protected.now a.check a.rules.now a.steps.now a.page.now a.table.now c.if-nodes-old_nodes.false _ _ c.put_front.ensures c.put_front-2.ensures _ c.drive_then.ensures.table_after c.if-links-old_links.false; page_in_bounds = c.drive_then.ensures.page_in_bounds }
