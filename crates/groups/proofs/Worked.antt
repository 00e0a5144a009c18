-- The definitions on two small graphs.
use mathlib.Core.Path.{◌≡◌, refl}
use mathlib.Core.List.{[], ◌∷◌}
use Rattle.letters.specs.Letters.{complement_of, upper_of}
use Rattle.handle.specs.Handle.{pack, flip, before}
use Rattle.store.specs.Graph.{Graph, graph_of}
use Rattle.groups.specs.Groups.{groups_of, members_of, ends_from, numbers}

-- 01 "Checked by hand", C13: A, then AC, GT, aC, GT; 1+ leads to 2+, 3-, 4+ and 5-
abbrev one : Graph
one =
    graph_of (1 ∷ 0 ∷ 1 ∷ 0 ∷ 2 ∷ 1 ∷ 2 ∷ 0 ∷ 3 ∷ 3 ∷ 2 ∷ 0 ∷ 4 ∷ 5 ∷ 2 ∷ 0 ∷ 5 ∷ 7 ∷ 2 ∷ 0 ∷ [])
    (65 ∷ 65 ∷ 67 ∷ 71 ∷ 84 ∷ 97 ∷ 67 ∷ 71 ∷ 84 ∷ [])
    (2 ∷ 4 ∷ 0 ∷ 2 ∷ 7 ∷ 0 ∷ 2 ∷ 8 ∷ 0 ∷ 2 ∷ 11 ∷ 0 ∷ [])
    (record { nodes = 5; letters = 9; links = 4 })

c13 : groups_of one (pack 1 0) ≡ (pack 5 1 ∷ pack 3 1 ∷ pack 2 0 ∷ pack 4 0 ∷ []) ∷ []
unfolding flip before complement_of upper_of
c13 = refl

-- A; nTC, GG, NA, CG, gg: 1+ leads to 2+, 3+, 4+, 5- and 6+, and 3+ to 6+ too. N is a key like the others, case aside, and
-- 6+ has another left set than 3+; the groups stand by 2+, 3+, 5- and 6+
abbrev two : Graph
two =
    graph_of
    (1 ∷ 0 ∷ 1 ∷ 0 ∷ 2 ∷ 1 ∷ 3 ∷ 0 ∷ 3 ∷ 4 ∷ 2 ∷ 0 ∷ 4 ∷ 6 ∷ 2 ∷ 0 ∷ 5 ∷ 8 ∷ 2 ∷ 0 ∷ 6 ∷ 10 ∷ 2 ∷ 0 ∷ [])
    (65 ∷ 110 ∷ 84 ∷ 67 ∷ 71 ∷ 71 ∷ 78 ∷ 65 ∷ 67 ∷ 71 ∷ 103 ∷ 103 ∷ [])
    (2 ∷ 4 ∷ 0 ∷ 2 ∷ 6 ∷ 0 ∷ 2 ∷ 8 ∷ 0 ∷ 2 ∷ 11 ∷ 0 ∷ 2 ∷ 12 ∷ 0 ∷ 6 ∷ 12 ∷ 0 ∷ [])
    (record { nodes = 6; letters = 12; links = 6 })

keyed : groups_of two (pack 1 0) ≡ (pack 2 0 ∷ pack 4 0 ∷ []) ∷ (pack 3 0 ∷ []) ∷ (pack 5 1 ∷ []) ∷ (pack 6 0 ∷ []) ∷ []
unfolding flip before complement_of upper_of
keyed = refl

handed : (numbers (members_of (groups_of two (pack 1 0))) ≡ 4 ∷ 8 ∷ 6 ∷ 11 ∷ 12 ∷ []) × (ends_from 0 (groups_of two (pack 1 0)) ≡ 2 ∷ 3 ∷ 4 ∷ 5 ∷ [])
unfolding flip before complement_of upper_of
handed = (refl, refl)
