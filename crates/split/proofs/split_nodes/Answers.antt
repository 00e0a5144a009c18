use Prim.Native.Nat.{ℕ}
use mathlib.Core.Path.{sym, ap, ◌∙◌}
use mathlib.Core.List.{List}
use native.Mathlib.Omega.{arith}
use Rattle.store.specs.Graph.{node_layout}
use Rattle.store.specs.declared.Node.{Node}
use Rattle.store.proofs.Fields.{node_at}
use Rattle.split.specs.Split.{cut, rest}
use Rattle.split.proofs.Arrays.{map_push}
use Rattle.split.proofs.Slot.{node-read}
use Rattle.split.proofs.split_nodes.Goals as goal

pub overflow_add-r : goal.overflow_add-r
overflow_add-r c =
    let a = c.args in
    omega (arith, ap (λ (r : Node). r.start) (node-read a.count a.id a.at a.nodes.now c.requires.at_lt_count.0 c.requires.at_lt_count.1 c.requires.at_lt_count.2 ∙ sym c.at-r.ensures))

pub overflow_sub-r : goal.overflow_sub-r
overflow_sub-r c =
    let a = c.args in
    omega (arith, ap (λ (r : Node). r.len) (node-read a.count a.id a.at a.nodes.now c.requires.at_lt_count.0 c.requires.at_lt_count.1 c.requires.at_lt_count.2 ∙ sym c.at-r.ensures))

pub returns : goal.returns
returns c =
    let a = c.args in
    let l : List ℕ = a.nodes.now in
    map_push node_layout a.count l (cut a.id a.k) (rest a.fresh a.k (node_at l a.at)) c.cut_node.ensures (rw c.at-r.ensures at c.push_node.ensures)
    ∙ rw (c.requires.fresh_value, node-read a.count a.id a.at a.nodes.now c.requires.at_lt_count.0 c.requires.at_lt_count.1 c.requires.at_lt_count.2)
