-- Two collapses, the second of a node that the first shortened: 1 is A, 2 is ACG, 3 is ACT, 4 is AT, and 1+ leads to each.
use mathlib.Core.Path.{◌≡◌, refl}
use mathlib.Core.Bool.{true, false}
use mathlib.Core.List.{List, [], ◌∷◌}
use Rattle.letters.specs.Letters.{complement_of, upper_of, is_base, is_letter}
use Rattle.handle.specs.Handle.{pack, flip, before}
use Rattle.handle.specs.Edge.{edge, written}
use Rattle.store.specs.Graph.{Graph, node, link}
use Rattle.store.specs.Views.{live_letters}
use Rattle.formed.specs.WellFormed.{good_graph, ids_once}
use Rattle.events.specs.Events.{rule, step}
use Rattle.sequences.specs.Sequences.{Collapse, beginning, after_all, allowed, lowers_all}

abbrev pub g : Graph
g =
    record {
      nodes = node 1 0 1 0 ∷ node 2 1 3 0 ∷ node 3 4 3 0 ∷ node 4 7 2 0 ∷ [];
      letters = 65 ∷ 65 ∷ 67 ∷ 71 ∷ 65 ∷ 67 ∷ 84 ∷ 65 ∷ 84 ∷ [];
      links = link (edge (pack 1 0) (pack 2 0)) 0 ∷ link (edge (pack 1 0) (pack 3 0)) 0 ∷ link (edge (pack 1 0) (pack 4 0)) 0 ∷ [];
    }

abbrev pub first : Collapse
first = record { members = pack 2 0 ∷ pack 3 0 ∷ []; p = 2 }

abbrev pub second : Collapse
second = record { members = pack 2 0 ∷ pack 4 0 ∷ []; p = 1 }

abbrev pub ks : List Collapse
ks = first ∷ second ∷ []

-- the first leaves 3 marked, so it can't be made again
may : (good_graph g ≡ true) × (ids_once g.nodes ≡ true) × (allowed (beginning g) ks ≡ true) × (allowed (beginning g) (first ∷ first ∷ []) ≡ false)
unfolding flip written before complement_of upper_of is_base is_letter
may = (refl, refl, refl, refl)

letters : (live_letters g.nodes ≡ 9) × (lowers_all ks ≡ 3) × (live_letters (after_all (beginning g) ks).graph.nodes ≡ 6)
unfolding flip written before
letters = (refl, refl, refl)

-- (2,3) as 2:2, 5:1, and later (2,2) as 2:1, 7:1
events : (after_all (beginning g) ks).events ≡ record {
  rules = rule 2 3 0 2 ∷ rule 3 3 2 2 ∷ rule 2 2 4 2 ∷ rule 4 2 6 2 ∷ [];
  steps = step 4 2 ∷ step 10 1 ∷ step 4 2 ∷ step 12 1 ∷ step 4 1 ∷ step 14 1 ∷ step 4 1 ∷ step 16 1 ∷ [];
}
unfolding flip written before
events = refl
