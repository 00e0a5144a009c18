-- C8 by the driver: 1 is A, 2 is ACG, 3 is ACT; 1+ to 2+, 1+ to 3+.
use mathlib.Core.Path.{◌≡◌, refl}
use mathlib.Core.List.{[], ◌∷◌}
use Rattle.letters.specs.Letters.{complement_of, upper_of, is_base, is_letter}
use Rattle.handle.specs.Handle.{pack, flip, before}
use Rattle.handle.specs.Edge.{edge, written}
use Rattle.store.specs.Graph.{Graph, node, link}
use Rattle.groups.specs.Groups.{groups_of}
use Rattle.collapsing.specs.Making.{State, Room, state, state_after}
use Rattle.choosing.specs.Scan.{scan_order, next_group}
use Rattle.driver.specs.Drive.{drive, ran}

abbrev pub s : State
s =
    state
    (record {
      nodes = node 1 0 1 0 ∷ node 2 1 3 0 ∷ node 3 4 3 0 ∷ [];
      letters = 65 ∷ 65 ∷ 67 ∷ 71 ∷ 65 ∷ 67 ∷ 84 ∷ [];
      links = link (edge (pack 1 0) (pack 2 0)) 0 ∷ link (edge (pack 1 0) (pack 3 0)) 0 ∷ [];
    }) (record { rules = []; steps = [] })

abbrev pub room : Room
room = record { nodes = 20; links = 15; rules = 8; steps = 8 }

group : (next_group s.graph [] ≡ pack 2 0 ∷ pack 3 0 ∷ []) × (next_group s.graph (3 ∷ []) ≡ [])
unfolding flip written before complement_of upper_of is_base is_letter
group = (refl, refl)

c8 : drive room [] s ≡ ran 0 1 (state_after 2 s (pack 2 0 ∷ pack 3 0 ∷ []))
unfolding flip written before complement_of upper_of is_base is_letter
c8 = refl

-- by rising id whatever the slots, forward before reverse, no marked node
scanned : scan_order (node 3 0 1 0 ∷ node 2 0 1 1 ∷ node 1 0 1 0 ∷ []) ≡ pack 1 0 ∷ pack 1 1 ∷ pack 3 0 ∷ pack 3 1 ∷ []
unfolding before
scanned = refl

-- 1 is A with 2, ACG, and 3, ACT, on its right, and 4 and 5, AC, to the right of its flip: those of 1+ come first, and where
-- 3 is protected those of 1-
abbrev both : Graph
both =
    record {
      nodes = node 1 0 1 0 ∷ node 2 1 3 0 ∷ node 3 4 3 0 ∷ node 4 1 2 0 ∷ node 5 4 2 0 ∷ [];
      letters = 65 ∷ 65 ∷ 67 ∷ 71 ∷ 65 ∷ 67 ∷ 84 ∷ [];
      links = link (edge (pack 1 1) (pack 4 0)) 0 ∷ link (edge (pack 1 1) (pack 5 0)) 0 ∷ link (edge (pack 1 0) (pack 3 0)) 0 ∷ link (edge (pack 1 0) (pack 2 0)) 0 ∷ [];
    }

forward-first : (next_group both [] ≡ pack 2 0 ∷ pack 3 0 ∷ []) × (next_group both (3 ∷ []) ≡ pack 4 0 ∷ pack 5 0 ∷ []) × (next_group both (3 ∷ 5 ∷ []) ≡ [])
unfolding flip before complement_of upper_of is_base is_letter
forward-first = (refl, refl, refl)

-- 1 is A, 2 is AT, which reads AT either way round: 1+ to 2+ and to 2- is a group that holds one node twice. Of N and N no
-- prefix is shared
abbrev twice : Graph
twice =
    record {
      nodes = node 1 0 1 0 ∷ node 2 1 2 0 ∷ [];
      letters = 65 ∷ 65 ∷ 84 ∷ [];
      links = link (edge (pack 1 0) (pack 2 0)) 0 ∷ link (edge (pack 1 0) (pack 2 1)) 0 ∷ [];
    }

abbrev unknown : Graph
unknown =
    record {
      nodes = node 1 0 1 0 ∷ node 2 1 1 0 ∷ node 3 2 1 0 ∷ [];
      letters = 65 ∷ 78 ∷ 110 ∷ [];
      links = link (edge (pack 1 0) (pack 2 0)) 0 ∷ link (edge (pack 1 0) (pack 3 0)) 0 ∷ [];
    }

passed_over : (groups_of twice (pack 1 0) ≡ (pack 2 1 ∷ pack 2 0 ∷ []) ∷ []) × (next_group twice [] ≡ []) × (groups_of unknown (pack 1 0) ≡ (pack 2 0 ∷ pack 3 0 ∷ []) ∷ []) × (next_group unknown [] ≡ [])
unfolding flip before complement_of upper_of is_base is_letter
passed_over = (refl, refl, refl, refl)
