-- The definitions on C8: 1 is A, 2 is ACG, 3 is ACT; 1+ to 2+, 1+ to 3+.
use Prim.Native.Nat.{ℕ}
use mathlib.Core.Path.{◌≡◌, refl}
use mathlib.Core.List.{List, [], ◌∷◌}
use Rattle.letters.specs.Letters.{complement_of, upper_of, is_base, is_letter}
use Rattle.handle.specs.declared.Handle.{Handle}
use Rattle.handle.specs.Handle.{pack, flip, before}
use Rattle.handle.specs.Edge.{edge, written}
use Rattle.store.specs.Graph.{node, link}
use Rattle.events.specs.Events.{rule, step}
use Rattle.collapsing.specs.Making.{State, Room, state, longer, group_number, collapse_number}

abbrev pub s : State
s =
    state
    (record {
      nodes = node 1 0 1 0 ∷ node 2 1 3 0 ∷ node 3 4 3 0 ∷ [];
      letters = 65 ∷ 65 ∷ 67 ∷ 71 ∷ 65 ∷ 67 ∷ 84 ∷ [];
      links = link (edge (pack 1 0) (pack 2 0)) 0 ∷ link (edge (pack 1 0) (pack 3 0)) 0 ∷ [];
    }) (record { rules = []; steps = [] })

abbrev pub ms : List Handle
ms = pack 2 0 ∷ pack 3 0 ∷ []

events : longer 2 s ms ≡ record { rules = rule 2 3 0 2 ∷ rule 3 3 2 2 ∷ []; steps = step 4 2 ∷ step 8 1 ∷ step 4 2 ∷ step 10 1 ∷ [] }
unfolding flip written before
events = refl

abbrev pub room : ℕ → Room
room links = record { nodes = 20; links = links; rules = 8; steps = 8 }

numbers : (collapse_number (room 15) 2 s ms ≡ 0) × (collapse_number (room 14) 2 s ms ≡ 7) × (group_number 3 s ms ≡ 9) × (group_number 2 s (pack 2 0 ∷ []) ≡ 8) × (group_number 1 s (pack 2 0 ∷ pack 1 0 ∷ []) ≡ 10)
unfolding flip written before complement_of upper_of is_base is_letter
numbers = (refl, refl, refl, refl, refl)
