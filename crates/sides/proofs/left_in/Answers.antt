use Prim.Native.Nat.{ℕ, ◌+◌, ◌<◌}
use mathlib.Core.Path.{◌≡◌, refl, sym, ap, ◌∙◌}
use mathlib.Core.Bool.{Bool, true, false, ◌&&◌}
use mathlib.Core.List.{List}
use native.Mathlib.Omega.{arith}
use borrow.Author.Tests.{not-true, not-false}
use lib.ListN.{drop}
use Rattle.kit.specs.Loops.{all, keep, lines}
use Rattle.kit.proofs.Laws.{left_none}
use Rattle.kit.proofs.Meaning.{all_append}
use Rattle.handle.specs.declared.Handle.{Handle}
use Rattle.handle.specs.Edge.{edge}
use Rattle.store.specs.Graph.{link_layout, links_of}
use Rattle.store.specs.declared.Node.{Node}
use Rattle.store.specs.declared.Link.{Link}
use Rattle.store.specs.Views.{live_link, live_linked}
use Rattle.store.proofs.Fields.{link_at, left-link}
use Rattle.sides.specs.Sides.{bare, left_ends}
use Rattle.sides.proofs.Rising.{all-rising}
use Rattle.sides.proofs.left_in.Invariants.{all_from}
use Rattle.sides.proofs.left_in.Goals as goal
use Rattle.sides.proofs.left_in.Goals.{then-not-shared+else-live_link, else-not-shared}

module _ (p : Handle → Bool) (u : Handle) (nodes : List Node) (n : ℕ) (l : List ℕ) (i : ℕ) (h : i < n) where
  live : live_link nodes (link_at l i) ≡ true → all_from p u nodes n l i ≡ (all p (left_ends u (link_at l i)) && all_from p u nodes n l (i + 1))
  live t = rw (left-link n i l h, t) (all_append p (left_ends u (link_at l i)) (lines (left_ends u) (keep (live_link nodes) (drop (i + 1) (links_of n l)))))

  dead : live_link nodes (link_at l i) ≡ false → all_from p u nodes n l i ≡ all_from p u nodes n l (i + 1)
  dead t = rw (left-link n i l h, t)

  pass : all p (left_ends u (link_at l i)) ≡ true → all_from p u nodes n l i ≡ all_from p u nodes n l (i + 1)
  pass s = by (live_link nodes (link_at l i)) refl
    where
      by : (b : Bool) → live_link nodes (link_at l i) ≡ b → all_from p u nodes n l i ≡ all_from p u nodes n l (i + 1)
      by true t = live t ∙ ap (λ (b : Bool). b && all_from p u nodes n l (i + 1)) s
      by false t = dead t

  fail : live_link nodes (link_at l i) ≡ true → all p (left_ends u (link_at l i)) ≡ false → all_from p u nodes n l i ≡ false
  fail t s = live t ∙ ap (λ (b : Bool). b && all_from p u nodes n l (i + 1)) s

pub loop-i-init : goal.loop-i-init
loop-i-init c =
    let a = c.args in
    let g = bare a.nodes.now a.links.now a.c in
    sym (all-rising (λ w. live_linked g (edge w a.v)) (lines (left_ends a.u) (keep (live_link g.nodes) g.links)))

pub returns-then-live_link : goal.returns-then-live_link
returns-then-live_link c =
    let a = c.args in
    let g = bare a.nodes.now a.links.now a.c in
    sym (fail (λ w. live_linked g (edge w a.v)) a.u g.nodes a.c.links a.links.now c.loop-i.i (omega arith) (ap (live_link g.nodes) (sym c.at.ensures) ∙ sym c.live_link.ensures ∙ c.if-live_link.true) (ap (λ (r : Link). all (λ w. live_linked g (edge w a.v)) (left_ends a.u r)) (sym c.unmarked_at.ensures) ∙ sym c.shared.ensures ∙ not-true _ c.if-not-shared.true-raw)) ∙ c.loop-i.invariant

pub loop-i-preserved : goal.loop-i-preserved
loop-i-preserved c =
    let a = c.args in
    let g = bare a.nodes.now a.links.now a.c in elim c.if-not-shared.branch [
      | then-not-shared+else-live_link w ↦ sym (dead (λ w. live_linked g (edge w a.v)) a.u g.nodes a.c.links a.links.now c.loop-i.i (omega arith) (ap (live_link g.nodes) (sym w.at.ensures) ∙ sym w.live_link.ensures ∙ w.if-live_link.false))
      | else-not-shared w ↦ sym (pass (λ w. live_linked g (edge w a.v)) a.u g.nodes a.c.links a.links.now c.loop-i.i (omega arith) (ap (λ (r : Link). all (λ w. live_linked g (edge w a.v)) (left_ends a.u r)) (sym c.unmarked_at.ensures) ∙ sym c.shared.ensures ∙ not-false _ w.if-not-shared.false-raw))
    ]
    ∙ c.loop-i.invariant

pub returns : goal.returns
returns c =
    let a = c.args in
    sym (rw (left_none link_layout a.c.links c.loop-i.i a.links.now (omega arith))) ∙ c.loop-i.invariant
