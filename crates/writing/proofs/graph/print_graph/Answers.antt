use Rattle.store.specs.Graph.{graph_of}
use Rattle.writing.specs.GraphText.{graph_text}
use Rattle.writing.proofs.Printing.{too_short, printed}
use Rattle.writing.proofs.graph.print_graph.Goals as goal

pub returns-then-out-len : goal.returns-then-out-len
returns-then-out-len c =
    let a = c.args in
    too_short (graph_text (graph_of a.nodes.now a.text.now a.links.now a.c)) a.out.now c.fill_graph-len.new.out c.fill_graph-len.auto.out c.fill_graph-len.result c.fill_graph-len.ensures.place c.if-out-len.true

pub returns : goal.returns
returns c =
    let a = c.args in
    printed (graph_text (graph_of a.nodes.now a.text.now a.links.now a.c)) a.out.now c.fill_graph-len.new.out c.fill_graph-len.auto.out c.fill_graph-len.result c.fill_graph-len.ensures.place c.if-out-len.false c.fill_graph.ensures
