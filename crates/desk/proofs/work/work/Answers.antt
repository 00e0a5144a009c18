use Rattle.reading.specs.Reading.{store}
use Rattle.collapsing.specs.Outcome as collapsing
use Rattle.desk.proofs.Stages.{refusal-inside, no_reading, works}
use Rattle.desk.proofs.work.work.Goals as goal

pub returns-then-r-ne0 : goal.returns-then-r-ne0
returns-then-r-ne0 c =
    let a = c.args in
    record { table_after = no_reading a.text.now a.protected.now a.check (store a.old_nodes.now a.letters.now a.old_links.now) (collapsing.lent a.nodes.now a.links.now a.event_rules.now a.event_steps.now) a.rules.now a.steps.now a.page.now a.table.now _ _ c.take_in-r.ensures _ c.refuse.ensures c.if-r-ne0.true; page_in_bounds = refusal-inside _ _ _ _ _ c.refuse.ensures }

pub shape_of-old_nodes : goal.shape_of-old_nodes
shape_of-old_nodes c = c.old_nodes-1.given

pub shape_of-letters : goal.shape_of-letters
shape_of-letters c = c.letters-1.given

pub shape_of-old_links : goal.shape_of-old_links
shape_of-old_links c = c.old_links-1.given

pub returns : goal.returns
returns c =
    let a = c.args in
    record { table_after = works a.text.now a.protected.now a.check (store a.old_nodes.now a.letters.now a.old_links.now) (collapsing.lent a.nodes.now a.links.now a.event_rules.now a.event_steps.now) a.rules.now a.steps.now a.page.now a.table.now _ _ c.take_in-r.ensures _ c.lay_then.ensures.table_after c.if-r-ne0.false; page_in_bounds = c.lay_then.ensures.page_in_bounds }
