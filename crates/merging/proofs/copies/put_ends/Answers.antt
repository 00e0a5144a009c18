use Prim.Native.Nat.{ℕ, ◌+◌, ◌*◌, ◌≤◌, ◌<◌}
use mathlib.Core.Path.{◌≡◌, refl, sym, ap, ◌∙◌}
use mathlib.Core.List.{List}
use native.Mathlib.Omega.{arith}
use lib.ListN.{length, get_or, set, length-set}
use lib.Seq.{get_or-drop}
use Rattle.kit.proofs.Laws.{left_none}
use Rattle.store.specs.Graph.{ends, link_layout}
use Rattle.store.proofs.Fields.{link_at, left-link}
use Rattle.merging.proofs.Putting.{Putting, put_one, all-put, ends-stored, remark-more, remark_none}
use Rattle.merging.proofs.copies.put_ends.Invariants.{left}
use Rattle.merging.proofs.copies.put_ends.Goals as goal

turn : (plan l₀ : List ℕ) (n : ℕ) (l : List ℕ) (i : ℕ) → Putting l₀ l i (left plan l₀ n i) (left plan l₀ n 0) → i < n → 3 * n ≤ length l₀ → Putting l₀ (set (set l (3 * i) (get_or plan (3 * i) 0)) (3 * i + 1) (get_or plan (3 * i + 1) 0)) (i + 1) (left plan l₀ n (i + 1)) (left plan l₀ n 0)
turn plan l₀ n l i p h room =
    let mark : (link_at l₀ i).mark ≡ get_or l (3 * i + 2) 0 = sym (get_or-drop (3 * i) l₀ 2 0) ∙ ap (λ (k : List ℕ). get_or k 2 0) (sym p.rest) ∙ get_or-drop (3 * i) l 2 0 in
    put_one p (remark-more (left-link n i l₀ h) (left-link n i plan h)) (simp length-set)
    (ends-stored i l (ends (link_at plan i)) (link_at l₀ i).mark mark (omega (arith, p.size)))

pub loop-i-init : goal.loop-i-init
loop-i-init c = record { size = refl; sofar = refl; rest = refl }

pub bounds-links-i-in-loop-i : goal.bounds-links-i-in-loop-i
bounds-links-i-in-loop-i c = simp length-set (omega arith)

pub loop-i-preserved : goal.loop-i-preserved
loop-i-preserved c =
    let a = c.args in
    turn a.plan.now a.links.now a.count c.loop-i.links c.loop-i.i c.loop-i.invariant (omega arith) c.requires.1

pub shape_of-links : goal.shape_of-links
shape_of-links c = c.loop-i.invariant.size

pub returns : goal.returns
returns c =
    let a = c.args in
    all-put c.loop-i.invariant (omega arith) (remark_none _ (left_none link_layout a.count c.loop-i.i a.plan.now (omega arith))) c.requires.1
