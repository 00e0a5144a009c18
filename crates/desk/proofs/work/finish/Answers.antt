use Rattle.checking.specs.CheckTransform.{lent}
use Rattle.desk.proofs.Pages.{table-inside, inside_of}
use Rattle.desk.proofs.Stages.{refusal-inside, no_table, finishes}
use native.Mathlib.Omega.{arith}
use Rattle.desk.proofs.work.finish.Goals as goal

pub returns-then-t-ne0 : goal.returns-then-t-ne0
returns-then-t-ne0 c =
    let a = c.args in
    record { table_after = no_table a.len (lent a.old_nodes.now a.letters.now a.old_links.now a.c) (lent a.nodes.now a.letters.now a.links.now a.d) a.rules.now a.steps.now a.u a.protected.now a.check a.stopped a.table.now _ _ c.print_transformations-t.ensures _ c.refuse.ensures c.if-t-ne0.true; page_le_len = refusal-inside _ _ _ _ _ c.refuse.ensures }

pub returns : goal.returns
returns c =
    let a = c.args in
    let i = inside_of _ _ _ c.print_transformations-t.ensures (table-inside a.old_nodes.now a.letters.now a.old_links.now a.c a.rules.now a.steps.now a.u a.table.now) in
    record { table_after = finishes a.len (lent a.old_nodes.now a.letters.now a.old_links.now a.c) (lent a.nodes.now a.letters.now a.links.now a.d) a.rules.now a.steps.now a.u a.protected.now a.check a.stopped a.table.now _ _ c.print_transformations-t.ensures _ c.judge-verdict.ensures c.if-t-ne0.false; page_le_len = (omega arith, i) }
