use mathlib.Core.Path.{◌≡◌, sym, ap, ◌∙◌}
use Rattle.std.specs.Option.{is_some}
use Rattle.store.specs.Graph.{nodes_of}
use Rattle.store.specs.Views.{stored}
use Rattle.reading.proofs.Found.{node_there}
use Rattle.reading.proofs.More.{segment_again}
use Rattle.reading.proofs.add.add_segment.Goals as goal

pub returns-then-is_some-clause-on_segments : goal.returns-then-is_some-clause-on_segments
returns-then-is_some-clause-on_segments c =
    let a = c.args in
    let rs = nodes_of a.c.nodes a.nodes.now in
    let there : c.is_some.result ≡ stored a.id rs = c.is_some.ensures ∙ ap is_some c.find_node.ensures.value ∙ node_there a.id rs in
    λ links l g h. segment_again h a.id a.s.now (sym there ∙ c.if-is_some.true)

pub append_segment-requires-clause-nodes_value : goal.append_segment-requires-clause-nodes_value
append_segment-requires-clause-nodes_value c =
    let a = c.args in
    let rs = nodes_of a.c.nodes a.nodes.now in
    let there : c.is_some.result ≡ stored a.id rs = c.is_some.ensures ∙ ap is_some c.find_node.ensures.value ∙ node_there a.id rs in
    sym there ∙ c.if-is_some.false
