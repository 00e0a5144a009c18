-- Walks reversed and flipped: turning twice, lengths, and that turning and expanding go either way round.
use Prim.Native.Nat.{ℕ, suc, ◌-◌, ◌<◌}
use mathlib.Core.Path.{◌≡◌, refl, sym, ap, ap₂, ◌∙◌}
use mathlib.Core.Bool.{Bool, true, false, cond, not}
use mathlib.Core.List.{List, [], ◌∷◌, ◌++◌, append_assoc, append-nil}
use native.Mathlib.Nat.{not-suc-le-zero}
use native.Mathlib.Omega.{arith}
use borrow.Author.Tests.{eq-eqb, ne_eqb}
use lib.Dec.{eqb}
use lib.ListN.{length, get_or, get_or-append}
use lib.Seq.{get_or_at}
use Rattle.kit.proofs.Bools.{tests}
use Rattle.kit.proofs.Meaning.{lines-append}
use Rattle.handle.specs.declared.Handle.{Handle}
use Rattle.handle.specs.Handle.{id_of, dir_of, flip}
use Rattle.handle.proofs.Handles.{id-flip, dir_flip, flip-flip}
use Rattle.events.specs.Events.{step_to, walk_of, keyed, turn_steps}
use Rattle.events.specs.declared.Rule.{Rule}
use Rattle.events.specs.declared.Step.{Step}
use Rattle.expansion.specs.Expansion.{expand_node, expand_walk}
use Rattle.events.proofs.Walks.{length-turn}

abbrev pub flip_step : Step → Step
flip_step s = step_to (flip s.node) s.len

flip_step_lem : (s : Step) → flip_step (flip_step s) ≡ s
flip_step_lem s = ap (λ (h : Handle). step_to h s.len) (flip-flip s.node)

pub turn-append : (a b : List Step) → turn_steps (a ++ b) ≡ turn_steps b ++ turn_steps a
turn-append [] b = sym (append-nil (turn_steps b))
turn-append (s ∷ a) b = rw (turn-append a b) (append_assoc (turn_steps b) (turn_steps a) (flip_step s ∷ []))

pub turn-turn : (a : List Step) → turn_steps (turn_steps a) ≡ a
turn-turn [] = refl
turn-turn (s ∷ a) = turn-append (turn_steps a) (flip_step s ∷ []) ∙ ap₂ ◌∷◌ (flip_step_lem s) (turn-turn a)

-- the k-th of a turned walk is the k-th from the end, flipped
pub get_d_turn : (a : List Step) (k : ℕ) (d : Step) → k < length a → get_or (turn_steps a) k d ≡ flip_step (get_or a (length a - 1 - k) d)
get_d_turn [] k d h = absurd (not-suc-le-zero h)
get_d_turn (s ∷ a) k d h = by (eqb k (length a)) refl (get_d_turn a k d)
  where
    by : (b : Bool) → eqb k (length a) ≡ b → (k < length a → get_or (turn_steps a) k d ≡ flip_step (get_or a (length a - 1 - k) d)) → get_or (turn_steps a ++ (flip_step s ∷ [])) k d ≡ flip_step (get_or (s ∷ a) (suc (length a) - 1 - k) d)
    by true e go =
        let z : suc (length a) - 1 - k ≡ 0 = omega (arith, tests) in
        let q : length (turn_steps a) ≡ k = omega (arith, tests, length-turn a) in
        rw z (get_or_at (turn_steps a) (flip_step s) [] d k q)
    by false e go =
        let z : suc (length a) - 1 - k ≡ suc (length a - 1 - k) = omega (arith, tests) in
        let q : k < length (turn_steps a) = omega (arith, tests, length-turn a) in
        rw z (get_or-append (turn_steps a) (flip_step s ∷ []) d k q ∙ go (omega (arith, tests)))

-- a flipped node is forward when the node is not
forward-flip : (h : Handle) → eqb (dir_of (flip h)) 0 ≡ not (eqb (dir_of h) 0)
forward-flip h = by (eqb (dir_of h) 0) refl
  where
    by : (b : Bool) → eqb (dir_of h) 0 ≡ b → eqb (dir_of (flip h)) 0 ≡ not b
    by true e = ne_eqb (dir_of (flip h)) 0 (λ q. omega (arith, tests, dir_flip h))
    by false e = eq-eqb (dir_of (flip h)) 0 (omega (arith, tests, dir_flip h))

turn_by : (keys forward : Bool) (w x y : List Step) → y ≡ turn_steps x → cond keys (cond (not forward) w (turn_steps w)) y ≡ turn_steps (cond keys (cond forward w (turn_steps w)) x)
turn_by true true w x y e = refl
turn_by true false w x y e = sym (turn-turn w)
turn_by false forward w x y e = e

module _ (steps : List Step) where
  pub node-turn : (rs : List Rule) (s : Step) → expand_node steps rs (flip_step s) ≡ turn_steps (expand_node steps rs s)
  node-turn [] s = refl
  node-turn (r ∷ rs) s =
      ap (λ (i : ℕ). cond (keyed i s.len r) (cond (eqb (dir_of (flip s.node)) 0) (expand_walk steps rs (walk_of steps r)) (turn_steps (expand_walk steps rs (walk_of steps r)))) (expand_node steps rs (flip_step s))) (id-flip s.node)
      ∙ ap (λ (b : Bool). cond (keyed (id_of s.node) s.len r) (cond b (expand_walk steps rs (walk_of steps r)) (turn_steps (expand_walk steps rs (walk_of steps r)))) (expand_node steps rs (flip_step s))) (forward-flip s.node)
      ∙ turn_by (keyed (id_of s.node) s.len r) (eqb (dir_of s.node) 0) (expand_walk steps rs (walk_of steps r)) (expand_node steps rs s) (expand_node steps rs (flip_step s)) (node-turn rs s)

  pub walk_turn : (rs : List Rule) (ws : List Step) → expand_walk steps rs (turn_steps ws) ≡ turn_steps (expand_walk steps rs ws)
  walk_turn rs [] = refl
  walk_turn rs (s ∷ ws) =
      lines-append (expand_node steps rs) (turn_steps ws) (flip_step s ∷ [])
      ∙ ap₂ ◌++◌ (walk_turn rs ws) (append-nil (expand_node steps rs (flip_step s)) ∙ node-turn rs s)
      ∙ sym (turn-append (expand_node steps rs s) (expand_walk steps rs ws))
