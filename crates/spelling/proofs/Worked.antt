-- The definitions on a small graph: 1 is A, 2 is AcG, 3 is T and marked; 1+ to 2+, 2- to 3+ and that one marked.
use mathlib.Core.Path.{◌≡◌, refl}
use mathlib.Core.Bool.{true, false}
use mathlib.Core.List.{[], ◌∷◌}
use Rattle.std.specs.Prelude.{Some, None}
use Rattle.letters.specs.Letters.{complement_of}
use Rattle.handle.specs.Handle.{pack, flip}
use Rattle.handle.specs.Edge.{edge}
use Rattle.store.specs.Graph.{Graph, node, link}
use Rattle.spelling.specs.Spelling.{turn_walk, all_stored, first_gap, spell_walk}

abbrev g : Graph
g =
    record {
      nodes = node 1 0 1 0 ∷ node 2 1 3 0 ∷ node 3 4 1 1 ∷ [];
      letters = 65 ∷ 65 ∷ 99 ∷ 71 ∷ 84 ∷ [];
      links = link (edge (pack 1 0) (pack 2 0)) 0 ∷ link (edge (pack 2 1) (pack 3 0)) 1 ∷ [];
    }

-- 6 is due for a step that is not stored; a marked one is
stored : (all_stored g.nodes (pack 1 0 ∷ pack 3 1 ∷ []) ≡ true) × (all_stored g.nodes (pack 1 0 ∷ pack 4 0 ∷ []) ≡ false)
stored = (refl, refl)

-- 23: 1+ 2+ 3+ has no link from 2+ to 3+; the same walk the other way round; a marked link is stored
gaps : (first_gap g.links (pack 1 0 ∷ pack 2 0 ∷ pack 3 0 ∷ []) ≡ Some 2) × (first_gap g.links (pack 3 1 ∷ pack 2 1 ∷ pack 1 1 ∷ []) ≡ Some 1) × (first_gap g.links (pack 2 1 ∷ pack 3 0 ∷ []) ≡ None) × (first_gap g.links [] ≡ None)
unfolding flip
gaps = (refl, refl, refl, refl)

-- A AcG, and turned CgT T
spells : (spell_walk g (pack 1 0 ∷ pack 2 0 ∷ []) ≡ 65 ∷ 65 ∷ 99 ∷ 71 ∷ []) × (spell_walk g (turn_walk (pack 1 0 ∷ pack 2 0 ∷ [])) ≡ 67 ∷ 103 ∷ 84 ∷ 84 ∷ []) × (spell_walk g [] ≡ [])
unfolding flip complement_of
spells = (refl, refl, refl)
