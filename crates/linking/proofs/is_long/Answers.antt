use Prim.Native.Nat.{ℕ}
use mathlib.Core.Path.{ap, ◌∙◌}
use lib.Dec.{ltb}
use Rattle.store.specs.Graph.{nodes_of}
use Rattle.store.specs.Views.{node_named}
use Rattle.linking.proofs.is_long.Goals as goal

pub returns : goal.returns
returns c =
    let a = c.args in
    ap (ltb a.p) (c.node_len.ensures ∙ ap (λ (i : ℕ). (node_named i (nodes_of a.node_count a.nodes.now)).len) c.id.ensures)
