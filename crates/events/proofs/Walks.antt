-- Walks turned round: as many steps, as long together. Events one after another: as many rules.
use Prim.Native.Nat.{ℕ, ◌+◌}
use mathlib.Core.Path.{◌≡◌, refl}
use mathlib.Core.List.{List, [], ◌∷◌}
use native.Mathlib.Omega.{arith}
use lib.ListN.{length, length-append}
use Rattle.kit.specs.Loops.{sum}
use Rattle.kit.proofs.Meaning.{sum-append}
use Rattle.handle.specs.Handle.{flip}
use Rattle.events.specs.Events.{step_to, turn_steps, Event, rules_from}
use Rattle.events.specs.declared.Step.{Step}

pub length-turn : (ss : List Step) → length (turn_steps ss) ≡ length ss
length-turn [] = refl
length-turn (s ∷ ss) = omega (arith, length-append (turn_steps ss) (step_to (flip s.node) s.len ∷ []), length-turn ss)

pub sum-turn : (ss : List Step) → sum (λ s. s.len) (turn_steps ss) ≡ sum (λ s. s.len) ss
sum-turn [] = refl
sum-turn (s ∷ ss) = omega (arith, sum-append (λ (r : Step). r.len) (turn_steps ss) (step_to (flip s.node) s.len ∷ []), sum-turn ss)

pub length-rules : (first : ℕ) (es : List Event) → length (rules_from first es) ≡ length es
length-rules first [] = refl
length-rules first (e ∷ es) = omega (arith, length-rules (first + length e.walk) es)
