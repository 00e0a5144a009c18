use Prim.Native.Nat.{ℕ}
use mathlib.Core.Path.{ap, ◌∙◌}
use Rattle.std.specs.Option.{is_some}
use Rattle.store.specs.Graph.{nodes_of}
use Rattle.store.specs.Views.{stored}
use Rattle.reading.proofs.Found.{node_there}
use Rattle.reading.proofs.steps.is_stored.Goals as goal

pub returns : goal.returns
returns c =
    let rs = nodes_of c.args.count c.args.nodes.now in
    c.is_some.ensures ∙ ap is_some c.find_node.ensures.value ∙ node_there c.id.result rs ∙ ap (λ (k : ℕ). stored k rs) c.id.ensures
