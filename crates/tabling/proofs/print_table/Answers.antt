use mathlib.Core.List.{[]}
use Rattle.store.specs.Graph.{graph_of}
use Rattle.events.specs.Events.{list_of}
use Rattle.writing.specs.TableText.{table_text}
use Rattle.writing.proofs.Printing.{too_short, printed}
use Rattle.tabling.proofs.print_table.Goals as goal

pub returns-then-out-len : goal.returns-then-out-len
returns-then-out-len c =
    let a = c.args in
    too_short (table_text (graph_of a.nodes.now [] [] a.c) (list_of a.rules.now a.steps.now a.u)) a.out.now c.fill_table-len.new.out c.fill_table-len.auto.out c.fill_table-len.result c.fill_table-len.ensures.place c.if-out-len.true

pub returns : goal.returns
returns c =
    let a = c.args in
    printed (table_text (graph_of a.nodes.now [] [] a.c) (list_of a.rules.now a.steps.now a.u)) a.out.now c.fill_table-len.new.out c.fill_table-len.auto.out c.fill_table-len.result c.fill_table-len.ensures.place c.if-out-len.false c.fill_table.ensures
