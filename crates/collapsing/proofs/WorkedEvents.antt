-- The events ahead are those of the graph: members forward, reversed and of p letters, the first of each kind.
use mathlib.Core.Path.{◌≡◌, refl}
use mathlib.Core.List.{List, [], ◌∷◌}
use Rattle.handle.specs.declared.Handle.{Handle}
use Rattle.handle.specs.Handle.{pack, flip, before}
use Rattle.handle.specs.Edge.{edge, written}
use Rattle.store.specs.Graph.{Graph, node, link}
use Rattle.events.specs.Events.{rule, step, append_all}
use Rattle.collapsing.specs.Making.{events_for}
use Rattle.longer.specs.Ahead.{events_by}

abbrev pub g : Graph
g =
    record {
      nodes = node 1 0 1 0 ∷ node 2 1 3 0 ∷ node 3 4 4 0 ∷ node 4 8 2 0 ∷ [];
      letters = [];
      links = link (edge (pack 1 0) (pack 2 0)) 0 ∷ link (edge (pack 1 0) (pack 3 1)) 0 ∷ link (edge (pack 1 0) (pack 4 0)) 0 ∷ link (edge (pack 4 0) (pack 4 1)) 0 ∷ [];
    }

abbrev pub forward : List Handle
forward = pack 2 0 ∷ pack 3 1 ∷ pack 4 0 ∷ []

abbrev pub reversed : List Handle
reversed = pack 3 1 ∷ pack 4 1 ∷ pack 2 0 ∷ []

abbrev pub exact : List Handle
exact = pack 4 0 ∷ pack 2 1 ∷ pack 3 0 ∷ []

ahead : (events_for 2 g forward ≡ events_by 2 g.nodes forward) × (events_for 2 g reversed ≡ events_by 2 g.nodes reversed) × (events_for 2 g exact ≡ events_by 2 g.nodes exact)
unfolding flip written before
ahead = (refl, refl, refl)

-- 3- is split at 2 of its 4: its prefix is 5-, its rest 3-
turned : append_all (record { rules = []; steps = [] }) (events_by 2 g.nodes reversed) ≡ record { rules = rule 3 4 0 2 ∷ rule 4 2 2 1 ∷ rule 2 3 3 2 ∷ []; steps = step 6 2 ∷ step 10 2 ∷ step 10 2 ∷ step 11 2 ∷ step 12 1 ∷ [] }
unfolding flip
turned = refl
