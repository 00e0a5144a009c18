use Rattle.checking.specs.CheckTransform.{lent}
use Rattle.desk.proofs.Stages.{refusal-inside, no_page, tells}
use native.Mathlib.Omega.{arith}
use Rattle.desk.proofs.work.tell.Goals as goal

pub returns-then-p-ne0 : goal.returns-then-p-ne0
returns-then-p-ne0 c =
    let a = c.args in
    record { table_after = no_page a.text.now (lent a.old_nodes.now a.letters.now a.old_links.now a.c) (lent a.nodes.now a.letters.now a.links.now a.d) a.rules.now a.steps.now a.u a.protected.now a.check a.stopped a.page.now a.table.now _ _ c.print_page-p.ensures.out_after _ c.refuse.ensures c.if-p-ne0.true; page_in_bounds = refusal-inside _ _ _ _ _ c.refuse.ensures }

pub returns : goal.returns
returns c =
    let a = c.args in
    record { table_after = tells a.text.now (lent a.old_nodes.now a.letters.now a.old_links.now a.c) (lent a.nodes.now a.letters.now a.links.now a.d) a.rules.now a.steps.now a.u a.protected.now a.check a.stopped a.page.now a.table.now _ _ c.print_page-p.ensures.out_after _ _ c.finish.ensures.table_after c.if-p-ne0.false; page_in_bounds = (omega (arith, c.print_page-p.ensures.len_in_bounds, c.finish.ensures.page_le_len.0), c.finish.ensures.page_le_len.1) }
