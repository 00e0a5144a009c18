-- The tests on the small graph of the store's own examples.
use mathlib.Core.Path.{◌≡◌, refl}
use mathlib.Core.Bool.{true, false}
use mathlib.Core.List.{[], ◌∷◌}
use Rattle.letters.specs.Letters.{complement_of, is_letter}
use Rattle.handle.specs.Handle.{flip}
use Rattle.handle.specs.Edge.{written}
use Rattle.store.proofs.Worked.{nodes, letters, links, counts, g}
use Rattle.formed.specs.WellFormed.{well_formed, ids_once, unmarked, graph_number}

good : (well_formed nodes letters links (counts 3 7 4) ≡ true) × (ids_once g.nodes ≡ true) × (unmarked g ≡ false)
unfolding complement_of is_letter written flip
good = (refl, refl, refl)

-- a letter too few in use, a link whose end is not stored, a link that is stored twice
bad : (graph_number nodes letters links (counts 3 6 4) ≡ 13) × (graph_number nodes letters links (counts 2 7 4) ≡ 13) × (graph_number nodes letters (2 ∷ 4 ∷ 0 ∷ 2 ∷ 4 ∷ 1 ∷ []) (counts 3 7 2) ≡ 13)
unfolding complement_of is_letter written flip
bad = (refl, refl, refl)

-- 2+ to 1- is not in its written form; an id given twice
bad_form : (graph_number nodes letters (4 ∷ 3 ∷ 0 ∷ []) (counts 3 7 1) ≡ 13) × (graph_number (1 ∷ 0 ∷ 1 ∷ 0 ∷ 1 ∷ 0 ∷ 1 ∷ 0 ∷ []) letters [] (counts 2 7 0) ≡ 5)
unfolding complement_of is_letter written flip
bad_form = (refl, refl)
