use mathlib.Core.List.{[]}
use Rattle.kit.proofs.Refusals.{passed_is}
use Rattle.store.specs.Graph.{nodes_of, graph_of}
use Rattle.events.specs.Events.{list_of}
use Rattle.paths.specs.PathText.{paths_text, paths_number}
use Rattle.paths.proofs.Printed.{printed}
use Rattle.paths.proofs.print_paths.Goals as goal

pub returns : goal.returns
returns c =
    let a = c.args in
    let number = paths_number (nodes_of a.c.nodes a.nodes.now) a.text.now in
    let lines = paths_text (graph_of a.nodes.now [] [] a.c) (list_of a.rules.now a.steps.now a.u) a.text.now in
    let measured = c.add_lines-len in
    printed number lines a.out.now (passed_is c.check_paths.ensures c.in_default.is) measured.new.out measured.auto.out measured.ensures.place c.if-out-len.false c.add_lines.ensures
