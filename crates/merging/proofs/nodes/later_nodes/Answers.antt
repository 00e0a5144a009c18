use Prim.Native.Nat.{ℕ, ◌+◌}
use mathlib.Core.Path.{ap, ◌∙◌}
use mathlib.Core.List.{List}
use Rattle.store.specs.Graph.{nodes_of}
use Rattle.store.specs.declared.Node.{Node}
use Rattle.formed.specs.WellFormed.{ids_once}
use Rattle.merging.specs.Plan.{alone_nodes}
use Rattle.merging.proofs.NodeTurns.{alone-once, holds, mark_alone}
use borrow.Author.Rules.{rules}
use Rattle.merging.proofs.nodes.later_nodes.Goals as goal

pub alone_nodes-n-requires : goal.alone_nodes-n-requires
alone_nodes-n-requires c = record { count_in_bounds = c.requires.count_in_bounds; nodes_value = (c.requires.nodes_value.0, ap (λ (x : ℕ). x + 1) c.largest_id-fresh.ensures); nodes_bound = c.requires.nodes_bound }

pub mark_node-requires : goal.mark_node-requires
mark_node-requires c =
    let a = c.args in
    let rs : List Node = nodes_of a.count a.nodes.now in
    (search rules, ap ids_once (holds (alone_nodes a.p rs a.m) _ _ _ c.alone_nodes-n.ensures.value c.alone_nodes-n.ensures.nodes_after) ∙ alone-once a.p rs a.m c.requires.nodes_value.0 c.requires.nodes_value.1)

pub returns : goal.returns
returns c =
    let a = c.args in
    let both = mark_alone a.p a.count a.nodes.now a.m (ap (λ (x : ℕ). x + 1) c.largest_id-fresh.ensures) c.prefix_id-id.ensures c.alone_nodes-n.ensures.value c.alone_nodes-n.ensures.nodes_after c.mark_node.ensures in record { value = both.0; nodes_after = both.1 }
