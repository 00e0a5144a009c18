-- C8, C9 and C12: what is promised there, on the graphs and the table of C8.
use mathlib.Core.Path.{◌≡◌, refl}
use mathlib.Core.Bool.{Bool, true, false}
use mathlib.Core.List.{List, [], ◌∷◌}
use Rattle.letters.specs.Letters.{complement_of, upper_of, is_letter}
use Rattle.handle.specs.declared.Handle.{Handle}
use Rattle.handle.specs.Handle.{pack, flip, before}
use Rattle.handle.specs.Edge.{edge, written, edge_before}
use Rattle.store.specs.Graph.{link}
use Rattle.events.specs.Events.{Rules, rule}
use Rattle.scanning.proofs.Worked.{old, new, steps, both}
use Rattle.verdict.proofs.Worked.{table}
use Rattle.promises.specs.Walks.{live_walk, rewrites_rightly, Formed}

abbrev c8 : Rules
c8 = table both steps

formed : Formed (old []) new c8
unfolding flip written before edge_before complement_of upper_of is_letter
formed = record { old_good = refl; new_good = refl; table_good = refl; old_once = refl; new_once = refl; keys_once = refl }

-- 1+ 3+ is rewritten rightly, either way round; copied it is not live, as 3 is gone
rightly : (rewrites_rightly (old []) new c8 (pack 1 0 ∷ pack 3 0 ∷ []) ≡ true) × (rewrites_rightly (old []) new c8 (pack 3 1 ∷ pack 1 1 ∷ []) ≡ true) × (live_walk new (pack 1 0 ∷ pack 3 0 ∷ []) ≡ false)
unfolding flip written before edge_before complement_of upper_of is_letter
rightly = (refl, refl, refl)

-- C9, 3 as >2>4: 3 alone is rewritten wrongly
abbrev c9 : Rules
c9 = table (rule 2 3 0 2 ∷ rule 3 3 0 2 ∷ []) steps

one-step : rewrites_rightly (old []) new c9 (pack 3 0 ∷ []) ≡ false
unfolding flip written before edge_before complement_of upper_of is_letter
one-step = refl

-- C12, 2+ to 3- added: either step alone is rewritten rightly, both together are not
abbrev c12 : List Handle → Bool
c12 walk = rewrites_rightly (old (link (edge (pack 2 0) (pack 3 1)) 0 ∷ [])) new c8 walk

two_steps : (c12 (pack 2 0 ∷ []) ≡ true) × (c12 (pack 3 1 ∷ []) ≡ true) × (c12 (pack 2 0 ∷ pack 3 1 ∷ []) ≡ false)
unfolding flip written before edge_before complement_of upper_of is_letter
two_steps = (refl, refl, refl)
