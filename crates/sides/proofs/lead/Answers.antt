use Prim.Native.Nat.{ℕ}
use mathlib.Core.Path.{sym, ap, ap₂, ◌∙◌}
use mathlib.Core.Bool.{Bool, cond}
use mathlib.Core.List.{[], List, ◌∷◌}
use Rattle.handle.specs.declared.Handle.{Handle}
use Rattle.handle.specs.Handle.{flip, same_handle}
use Rattle.sides.specs.Search.{lowest}
use Rattle.sides.proofs.Search.{lowest-append}
use Rattle.sides.proofs.lead.Goals as goal

pub returns : goal.returns
returns c =
    let a = c.args in
    let found : ℕ → List Handle → ℕ = lowest a.above in
    c.offer.ensures
    ∙ ap₂ found
    (c.offer-other.ensures ∙ ap₂ (λ (t : Bool) (h : Handle). found a.best (cond t (h ∷ []) [])) (c.eq.ensures ∙ ap (λ (h : Handle). same_handle h a.v) c.flip-near.ensures) c.flip.ensures)
    (ap (λ (t : Bool). cond t (a.l.to ∷ []) []) c.eq-2.ensures)
    ∙ sym (lowest-append a.above a.best (cond (same_handle a.l.from a.v) (a.l.to ∷ []) []) (cond (same_handle (flip a.l.to) a.v) (flip a.l.from ∷ []) []))
