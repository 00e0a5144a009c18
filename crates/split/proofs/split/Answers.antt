use native.Mathlib.Omega.{arith}
use Rattle.kit.proofs.Meaning.{found-any}
use Rattle.store.specs.Graph.{nodes_of}
use Rattle.store.specs.Views.{named}
use Rattle.split.proofs.Nodes.{stored-largest}
use Rattle.split.proofs.split.Goals as goal

pub split_links-requires : goal.split_links-requires
split_links-requires c =
    let a = c.args in
    let rs = nodes_of a.node_count a.nodes.now in
    omega (arith, stored-largest a.id rs (found-any (named a.id) 0 a.at rs c.requires.at_lt_node_count.1))
