use Prim.Native.Nat.{ℕ, ◌-◌}
use mathlib.Core.Path.{ap, ◌∙◌}
use lib.Dec.{ltb}
use lib.ListN.{length}
use Rattle.store.specs.Graph.{nodes_of}
use Rattle.longer.proofs.ByMember.{one_place, event-many}
use Rattle.longer.proofs.count_events.Goals as goal

pub overflow_sub-result : goal.overflow_sub-result
overflow_sub-result c = rw c.first_place.ensures (one_place (ltb c.args.p c.len_of-len.result) (length c.args.members.now) c.requires.1)

pub returns : goal.returns
returns c =
    let a = c.args in
    ap (λ (n : ℕ). length a.members.now - n) c.first_place.ensures
    ∙ event-many a.p (nodes_of a.node_count a.nodes.now) a.members.now c.len_of-len.result c.requires.1 c.len_of-len.ensures
