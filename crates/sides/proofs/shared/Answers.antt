use mathlib.Core.Path.{◌≡◌, sym, ap, ap₂, ◌∙◌}
use mathlib.Core.Bool.{Bool, true, false, cond, ◌&&◌}
use mathlib.Core.List.{[], ◌∷◌}
use Rattle.kit.specs.Loops.{all}
use Rattle.kit.proofs.Meaning.{all_append}
use Rattle.handle.specs.declared.Handle.{Handle}
use Rattle.handle.specs.Handle.{flip, same_handle}
use Rattle.handle.specs.Edge.{edge}
use Rattle.store.specs.Graph.{link}
use Rattle.store.specs.Views.{live_linked}
use Rattle.sides.specs.Sides.{bare, left_ends}
use Rattle.sides.proofs.shared.Goals as goal

-- the second end is asked where the first passed
module _ (p : Handle → Bool) (u from to : Handle) where
  split : (b : Bool) → all p (cond (same_handle to u) (from ∷ []) []) ≡ b → all p (left_ends u (link (edge from to) 0)) ≡ (b && all p (cond (same_handle (flip from) u) (flip to ∷ []) []))
  split b e =
      all_append p (cond (same_handle to u) (from ∷ []) []) (cond (same_handle (flip from) u) (flip to ∷ []) [])
      ∙ ap (λ (t : Bool). t && all p (cond (same_handle (flip from) u) (flip to ∷ []) [])) e

pub returns-then-among : goal.returns-then-among
returns-then-among c =
    let a = c.args in
    let p : Handle → Bool = λ h. live_linked (bare a.nodes.now a.links.now a.c) (edge h a.v) in
    let first = ap (λ (t : Bool). all p (cond t (a.l.from ∷ []) [])) (sym c.eq.ensures) ∙ sym c.among.ensures in
    c.among-then-among.ensures
    ∙ ap₂ (λ (t : Bool) (h : Handle). all p (cond t (h ∷ []) [])) (c.eq-then-among.ensures ∙ ap (λ (h : Handle). same_handle h a.u) c.flip-near.ensures) c.flip.ensures
    ∙ sym (split p a.u a.l.from a.l.to true (first ∙ c.if-among.true))

pub returns-else-among : goal.returns-else-among
returns-else-among c =
    let a = c.args in
    let p : Handle → Bool = λ h. live_linked (bare a.nodes.now a.links.now a.c) (edge h a.v) in
    let first = ap (λ (t : Bool). all p (cond t (a.l.from ∷ []) [])) (sym c.eq.ensures) ∙ sym c.among.ensures in
    c.if-among.false ∙ sym (split p a.u a.l.from a.l.to false (first ∙ c.if-among.false))
