-- Rewriting goes part by part, and a walk turned round is rewritten to the new walk turned round.
use Prim.Native.Nat.{ℕ, zero, suc, ◌-◌, ◌≤◌}
use mathlib.Core.Path.{◌≡◌, refl, sym, ap₂, ◌∙◌}
use mathlib.Core.List.{List, [], ◌∷◌, ◌++◌, append-nil}
use native.Mathlib.Omega.{arith}
use Rattle.kit.proofs.Meaning.{lines-append}
use Rattle.handle.specs.declared.Handle.{Handle}
use Rattle.handle.specs.Handle.{id_of, dir_of, flip}
use Rattle.handle.proofs.Handles.{id-flip, dir_flip, dir_small}
use Rattle.store.specs.Graph.{Graph}
use Rattle.store.specs.Views.{len_of}
use Rattle.events.specs.Events.{Rules}
use Rattle.spelling.specs.Spelling.{turn_walk}
use Rattle.spelling.proofs.Walks.{turn-append, turn-turn}
use Rattle.rewriting.specs.Rewriting.{image_of, transform_node, transform_walk}
use Rattle.rewriting.specs.Measure.{towards}

-- the other direction
towards-turn : (hs : List Handle) (d : ℕ) → d ≤ 1 → towards (1 - d) hs ≡ turn_walk (towards d hs)
towards-turn hs zero h = refl
towards-turn hs (suc zero) h = sym (turn-turn hs)
towards-turn hs (suc (suc d)) h = absurd (omega arith)

module _ (g : Graph) (t : Rules) where
  pub transform_append : (a b : List Handle) → transform_walk g t (a ++ b) ≡ transform_walk g t a ++ transform_walk g t b
  transform_append a b = lines-append (transform_node g t) a b

  pub transform_flip : (h : Handle) → transform_node g t (flip h) ≡ turn_walk (transform_node g t h)
  transform_flip h =
      ap₂ (λ (id d : ℕ). towards d (image_of t id (len_of g id))) (id-flip h) (dir_flip h)
      ∙ towards-turn (image_of t (id_of h) (len_of g (id_of h))) (dir_of h) (dir_small h)

  pub transform_turn : (hs : List Handle) → transform_walk g t (turn_walk hs) ≡ turn_walk (transform_walk g t hs)
  transform_turn [] = refl
  transform_turn (h ∷ hs) =
      transform_append (turn_walk hs) (flip h ∷ [])
      ∙ ap₂ ◌++◌ (transform_turn hs) (append-nil (transform_node g t (flip h)) ∙ transform_flip h)
      ∙ sym (turn-append (transform_node g t h) (transform_walk g t hs))
