-- Each turn lowers the live letters, and where there are none there is no group.
use Prim.Native.Nat.{ℕ, ◌-◌, ◌*◌, ◌≤◌, ◌<◌}
use mathlib.Core.Path.{◌≡◌, ap}
use mathlib.Core.Bool.{Bool, true, false, cond}
use mathlib.Core.List.{List, Memᴰ}
use native.Mathlib.Nat.{mul-pos}
use native.Mathlib.Omega.{arith}
use borrow.Author.Tests.{eqb-false}
use lib.Dec.{eqb}
use lib.ListN.{length, get_or}
use Rattle.kit.specs.Loops.{sum}
use Rattle.kit.proofs.Bools.{and_true_r}
use Rattle.kit.proofs.Meaning.{mem_at, all_mem, any_some}
use Rattle.handle.specs.declared.Handle.{Handle}
use Rattle.handle.specs.Handle.{id_of}
use Rattle.store.specs.Graph.{Graph}
use Rattle.store.specs.Views.{named, unmarked_node, live_here, live_node, live_len, live_letters}
use Rattle.formed.specs.WellFormed.{good_node, good_graph}
use Rattle.formed.proofs.Says.{graph_says, node_says}
use Rattle.merging.specs.Merging.{collapsed}
use Rattle.merged.proofs.Members as members
use Rattle.merged.proofs.Theorems.{letters_fall}
use Rattle.collapsing.specs.Making.{State}
use Rattle.choosing.specs.Scan.{next_group}
use Rattle.driver.specs.Drive.{prefix_len}
use Rattle.driver.proofs.Theorems.{next_collapses}

pub nonempty : (n : ℕ) → eqb n 0 ≡ false → 1 ≤ n
nonempty n f = let some : n ≡ 0 → ⊥ = eqb-false n 0 f in omega (arith, some)

sum_mem : {A : Type 0} (f : A → ℕ) {a : A} {rs : List A} → Memᴰ a rs → f a ≤ sum f rs
sum_mem f (Memᴰ.head e) = rw e (omega arith)
sum_mem f (Memᴰ.tail m) = omega (arith, sum_mem f m)

-- a group has a live node, and that a letter
pub some_letter : (g : Graph) (protected : List ℕ) → good_graph g ≡ true → 1 ≤ length (next_group g protected) → 1 ≤ live_letters g.nodes
some_letter g protected good h =
    let ms = next_group g protected in
    let m : Handle = get_or ms 0 (record { packed = 0 }) in
    let live : live_node (id_of m) g.nodes ≡ true = all_mem (λ (u : Handle). live_node (id_of u) g.nodes) (next_collapses g protected h).live (mem_at ms 0 (record { packed = 0 }) h) in
    let r = any_some (live_here (id_of m)) g.nodes live in
    let some = (node_says g.letters r.0 (all_mem (good_node g.letters) (graph_says g good).nodes_good r.1)).some_letter in
    let own : live_len r.0 ≡ r.0.len = ap (λ (b : Bool). cond b r.0.len 0) (and_true_r (named (id_of m) r.0) (unmarked_node r.0) r.2) in
    omega (arith, sum_mem live_len r.1)

pub turn_falls : (protected : List ℕ) (s : State) → let ms = next_group s.graph protected in let p = prefix_len protected s in 1 ≤ length ms → members.Collapses p s.graph ms → live_letters (collapsed p s.graph ms).nodes < live_letters s.graph.nodes
turn_falls protected s h c =
    let ms = next_group s.graph protected in
    let p = prefix_len protected s in
    let k = next_collapses s.graph protected h in
    let some : 0 < p * (length ms - 1) = mul-pos k.prefix (omega (arith, k.two)) in
    omega (arith, letters_fall p s.graph ms c h)
