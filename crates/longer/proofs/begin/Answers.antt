use Prim.Native.Nat.{ℕ, ◌+◌, ◌≤◌}
use mathlib.Core.Path.{◌≡◌, sym}
use mathlib.Core.Bool.{true, cond}
use mathlib.Core.List.{List}
use native.Mathlib.Omega.{arith}
use lib.Dec.{ltb}
use Rattle.handle.specs.declared.Handle.{Handle}
use Rattle.handle.specs.Handle.{max_id}
use Rattle.store.specs.Graph.{nodes_of}
use Rattle.store.specs.declared.Node.{Node}
use Rattle.store.specs.Views.{largest}
use Rattle.merging.specs.Plan.{long_by, fresh_after}
use Rattle.longer.specs.declared.Run.{Run}
use Rattle.longer.specs.Longer.{prefix_one, beginning}
use Rattle.longer.proofs.ByMember.{length_in, one_more}
use Rattle.longer.proofs.begin.Goals as goal

begun : (p : ℕ) (nodes : List Node) (m : Handle) (len top : ℕ) (x : Handle) (place : ℕ) → len ≡ length_in nodes m → top ≡ largest nodes → x ≡ prefix_one p len (top + 1) m → place ≡ cond (ltb p len) 0 1 → ◌≡◌ {A = Run} (record { x = x; fresh = top + 1; place = place }) (beginning p nodes m)
begun p nodes m len top x place d e f g = rw (f, g, d, e)

fits : (p : ℕ) (nodes : List Node) (m : Handle) (len top : ℕ) → len ≡ length_in nodes m → top ≡ largest nodes → fresh_after p nodes (largest nodes + 1) m ≤ max_id + 1 → ltb p len ≡ true → top + 1 ≤ max_id
fits p nodes m len top d e h t =
    let k = rw (sym d, t) at h in
    omega (arith, e)

pub overflow_add-fresh : goal.overflow_add-fresh
overflow_add-fresh c =
    let a = c.args in
    let N = nodes_of a.count a.nodes.now in
    omega (arith, one_more (long_by a.p N a.first) (largest N + 1), c.requires.first_bound, c.largest_id-fresh.ensures)

pub prefix_of-x-requires : goal.prefix_of-x-requires
prefix_of-x-requires c =
    let a = c.args in
    fits a.p (nodes_of a.count a.nodes.now) a.first _ _ c.len_of-len.ensures c.largest_id-fresh.ensures c.requires.first_bound

pub returns : goal.returns
returns c =
    let a = c.args in
    begun a.p (nodes_of a.count a.nodes.now) a.first _ _ _ _ c.len_of-len.ensures c.largest_id-fresh.ensures c.prefix_of-x.ensures c.first_place-place.ensures
