use Prim.Native.Nat.{ℕ}
use mathlib.Core.Path.{ap, ◌∙◌}
use Rattle.store.specs.Graph.{nodes_of}
use Rattle.store.specs.Views.{node_named}
use Rattle.longer.proofs.len_of.Goals as goal

pub returns : goal.returns
returns c =
    let a = c.args in
    c.node_len.ensures ∙ ap (λ (k : ℕ). (node_named k (nodes_of a.count a.nodes.now)).len) c.id.ensures
