use Prim.Native.Nat.{ℕ, ◌*◌}
use mathlib.Core.Path.{sym, ap, ◌∙◌}
use mathlib.Core.List.{List, ◌++◌}
use lib.ListN.{drop}
use Rattle.kit.specs.Layout.{encode}
use Rattle.kit.proofs.Laws.{encode-decode}
use Rattle.store.specs.Graph.{node_layout, nodes_of}
use Rattle.store.specs.declared.Node.{Node}
use Rattle.store.proofs.Lookups.{NodeFound, node-found, node_nowhere}
use Rattle.merging.proofs.NodeTurns.{mark_there, mark_none}
use Rattle.merging.proofs.nodes.mark_node.Goals as goal

pub returns-in_default : goal.returns-in_default
returns-in_default c =
    let a = c.args in
    let l : List ℕ = a.nodes.now in
    sym (ap (λ (rs : List Node). encode node_layout rs ++ drop (4 * a.count) l) (mark_none a.id (nodes_of a.count l) (node_nowhere a.id (nodes_of a.count l) (sym c.find_node.ensures.value ∙ c.in_default.is))) ∙ encode-decode node_layout a.count l c.requires.0)

pub returns : goal.returns
returns c =
    let found : NodeFound c.args.count c.args.nodes.now c.args.id c.in-Some.i =
    let a = c.args in
    node-found a.count a.nodes.now a.id c.in-Some.i (sym c.find_node.ensures.value ∙ c.in-Some.is)
    in
    let a = c.args in
    mark_there a.count a.id c.in-Some.i a.nodes.now (sym c.find_node.ensures.value ∙ c.in-Some.is) c.requires.1 (found).within c.requires.0
