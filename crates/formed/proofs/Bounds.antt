-- What the limits bound in a well-formed store.
use Prim.Native.Nat.{ℕ, ◌^◌, ◌≤◌, ◌<◌}
use mathlib.Core.Path.{◌≡◌}
use mathlib.Core.Bool.{Bool, true, false, cond}
use mathlib.Core.List.{List}
use native.Mathlib.Omega.{arith}
use lib.ListN.{length, take, get_or, length-take}
use Rattle.kit.proofs.Laws.{length-decode}
use Rattle.kit.proofs.Meaning.{all-at}
use Rattle.kit.proofs.Steps.{sum_bound}
use Rattle.store.specs.declared.Counts.{Counts}
use Rattle.store.specs.Graph.{node_layout, nodes_of}
use Rattle.store.specs.declared.Node.{Node}
use Rattle.store.specs.Views.{unmarked_node, live_len, live_letters}
use Rattle.formed.specs.WellFormed.{good_node, well_formed}
use Rattle.formed.proofs.Says.{node_says, formed_room, formed_good}

live_len_lem : (r : Node) (b : Bool) → cond b r.len 0 ≤ r.len
live_len_lem r true = omega arith
live_len_lem r false = omega arith

-- no live letter total leaves 64 bits
pub live-fits : (nodes letters links : List ℕ) (c : Counts) → well_formed nodes letters links c ≡ true → live_letters (nodes_of c.nodes nodes) < 2 ^ 64
live-fits nodes letters links c t =
    let room = formed_room nodes letters links c t in
    let good = formed_good nodes letters links c t in
    let used = take c.letters letters in
    let each : (i : ℕ) → i < length (nodes_of c.nodes nodes) → (d : Node) → live_len (get_or (nodes_of c.nodes nodes) i d) ≤ 16777216 =
    λ i h d.
    let r = get_or (nodes_of c.nodes nodes) i d in
    let n = node_says used r (all-at (good_node used) (nodes_of c.nodes nodes) good.nodes_good i h d) in
    omega (arith, live_len_lem r (unmarked_node r), n.inside, length-take c.letters letters, room.few_letters)
    in
    omega (arith, sum_bound live_len 16777216 (nodes_of c.nodes nodes) each, length-decode node_layout c.nodes nodes, room.few_nodes)
