use Prim.Native.Nat.{ℕ}
use mathlib.Core.Path.{sym, ap₂, ◌∙◌}
use mathlib.Core.Bool.{Bool}
use mathlib.Core.List.{List}
use native.Mathlib.Omega.{arith}
use Rattle.handle.specs.Edge.{edge_before}
use Rattle.keeping.specs.Search.{ends_at}
use Rattle.keeping.proofs.LinksKept.{slot_free, slot_first, slot_stays}
use Rattle.keeping.proofs.earlier.Goals as goal

abbrev sooner : List ℕ → ℕ → ℕ → Bool
sooner l i best = edge_before (ends_at l i) (ends_at l best)

pub returns-then-count-best : goal.returns-then-count-best
returns-then-count-best c =
    let a = c.args in
    slot_free a.count a.i a.best (sooner a.links.now a.i a.best) c.if-count-best.true

pub returns-then-before : goal.returns-then-before
returns-then-before c =
    let a = c.args in
    slot_first a.count a.i a.best (sooner a.links.now a.i a.best) (omega arith) (ap₂ edge_before (sym c.ends_at-e.ensures) (sym c.ends_at.ensures) ∙ sym c.before-2.ensures ∙ c.if-before.true)

pub returns : goal.returns
returns c =
    let a = c.args in
    slot_stays a.count a.i a.best (sooner a.links.now a.i a.best) (omega arith) (ap₂ edge_before (sym c.ends_at-e.ensures) (sym c.ends_at.ensures) ∙ sym c.before-2.ensures ∙ c.if-before.false)
