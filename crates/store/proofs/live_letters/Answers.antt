use Prim.Native.Nat.{ℕ, ◌+◌, ◌<◌}
use mathlib.Core.List.{List, ◌∷◌}
use mathlib.Core.Path.{◌≡◌, sym, ap, ◌∙◌}
use native.Mathlib.Nat.{zero-add}
use native.Mathlib.Omega.{arith}
use borrow.Author.Tests.{eq-eqb, ne_eqb}
use lib.ListN.{drop}
use Rattle.store.specs.Views.{live_len, live_letters}
use Rattle.kit.proofs.Steps.{sum_more, sum_end}
use Rattle.store.proofs.Fields.{left-node}
use Rattle.store.specs.Graph.{node_at, node_layout, nodes_of}
use Rattle.store.specs.declared.Node.{Node}
use Rattle.kit.proofs.Laws.{left_none}
use Rattle.store.proofs.live_letters.Goals as goal
use Rattle.store.proofs.live_letters.Goals.{then-r-eq0, else-r-eq0}

-- what the node at i adds
module _ (n i : ℕ) (l : List ℕ) (h : i < n) (r : Node) (e : r ≡ node_at l i) where
  here : drop i (nodes_of n l) ≡ r ∷ drop (i + 1) (nodes_of n l)
  here = left-node n i l h ∙ ap (λ (x : Node). x ∷ drop (i + 1) (nodes_of n l)) (sym e)

  live : r.mark ≡ 0 → live_letters (drop i (nodes_of n l)) ≡ r.len + live_letters (drop (i + 1) (nodes_of n l))
  live t = sum_more live_len here ∙ rw (eq-eqb _ _ t)

  dead : (r.mark ≡ 0 → ⊥) → live_letters (drop i (nodes_of n l)) ≡ live_letters (drop (i + 1) (nodes_of n l))
  dead t = sum_more live_len here ∙ rw (ne_eqb _ _ t) (zero-add _)

pub overflow_add-sum : goal.overflow_add-sum
overflow_add-sum c =
    let a = c.args in
    let i = c.loop-i.i in
    omega (arith, live a.count i a.nodes.now (omega arith) c.at-r.result c.at-r.ensures c.if-r-eq0.true)

pub loop-i-preserved : goal.loop-i-preserved
loop-i-preserved c =
    let a = c.args in
    let i = c.loop-i.i in
    elim c.if-r-eq0.branch [
      | then-r-eq0 w ↦ omega (arith, w.sum-is, live a.count i a.nodes.now (omega arith) c.at-r.result c.at-r.ensures w.if-r-eq0.true)
      | else-r-eq0 w ↦ omega (arith, w.sum-is, dead a.count i a.nodes.now (omega arith) c.at-r.result c.at-r.ensures w.if-r-eq0.false)
    ]

pub returns : goal.returns
returns c =
    let a = c.args in
    let i = c.loop-i.i in
    omega (arith, sum_end live_len (left_none node_layout a.count i a.nodes.now (omega arith)))
