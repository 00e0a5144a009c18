use mathlib.Core.Path.{◌∙◌}
use native.Mathlib.Omega.{arith}
use native.Mathlib.Numerals.{add-one}
use Rattle.kit.proofs.Laws.{push}
use Rattle.store.specs.Graph.{node, node_layout}
use Rattle.split.proofs.push_node.Goals as goal

pub returns : goal.returns
returns c =
    let a = c.args in
    c.put.ensures ∙ rw (add-one a.count) (push node_layout a.count a.nodes.now (node a.id a.start a.len a.mark) (omega arith))
