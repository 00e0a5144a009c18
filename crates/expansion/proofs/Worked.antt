-- C14: (2,3) to 2:2,4:1, then (2,2) to 2:1,6:1; and a reversed step.
use mathlib.Core.Path.{◌≡◌, refl}
use mathlib.Core.List.{[], ◌∷◌}
use Rattle.handle.specs.Handle.{flip}
use Rattle.events.specs.Events.{rule, step}
use Rattle.expansion.specs.Expansion.{expanded}

c14 : expanded (record { rules = rule 2 3 0 2 ∷ rule 2 2 2 2 ∷ []; steps = step 4 2 ∷ step 8 1 ∷ step 4 1 ∷ step 12 1 ∷ [] }) ≡ record { rules = rule 2 3 0 3 ∷ rule 2 2 3 2 ∷ []; steps = step 4 1 ∷ step 12 1 ∷ step 8 1 ∷ step 4 1 ∷ step 12 1 ∷ [] }
c14 = refl

turned : expanded (record { rules = rule 2 3 0 2 ∷ rule 2 2 2 2 ∷ []; steps = step 9 1 ∷ step 5 2 ∷ step 4 1 ∷ step 12 1 ∷ [] }) ≡ record { rules = rule 2 3 0 3 ∷ rule 2 2 3 2 ∷ []; steps = step 9 1 ∷ step 13 1 ∷ step 5 1 ∷ step 4 1 ∷ step 12 1 ∷ [] }
unfolding flip
turned = refl
