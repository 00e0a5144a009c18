-- 01 "Checked by hand", C1 to C4; and members that are read reversed.
use mathlib.Core.Path.{◌≡◌, refl}
use mathlib.Core.List.{[], ◌∷◌}
use Rattle.letters.specs.Letters.{complement_of, is_letter, upper_of, is_base}
use Rattle.handle.specs.Handle.{pack}
use Rattle.store.specs.Graph.{Graph, node}
use Rattle.affix.specs.Prefix.{shared_prefix, group_prefix}

-- ACG, acT: AC
pub C1 : shared_prefix ((65 ∷ 67 ∷ 71 ∷ []) ∷ (97 ∷ 99 ∷ 84 ∷ []) ∷ []) ≡ 65 ∷ 67 ∷ []
unfolding complement_of is_letter upper_of is_base
C1 = refl

-- ANG, ANG: A
pub C2 : shared_prefix ((65 ∷ 78 ∷ 71 ∷ []) ∷ (65 ∷ 78 ∷ 71 ∷ []) ∷ []) ≡ 65 ∷ []
unfolding complement_of is_letter upper_of is_base
C2 = refl

-- ACNT alone: AC
pub C3 : shared_prefix ((65 ∷ 67 ∷ 78 ∷ 84 ∷ []) ∷ []) ≡ 65 ∷ 67 ∷ []
unfolding complement_of is_letter upper_of is_base
C3 = refl

-- NA, NA: none
pub C4 : shared_prefix ((78 ∷ 65 ∷ []) ∷ (78 ∷ 65 ∷ []) ∷ []) ≡ []
unfolding complement_of is_letter upper_of is_base
C4 = refl

-- 1 is ACG and 2 is gT, which reversed reads Ac; the letters are the first member's
abbrev g : Graph
g = record { nodes = node 1 0 3 0 ∷ node 2 3 2 0 ∷ []; letters = 65 ∷ 67 ∷ 71 ∷ 103 ∷ 84 ∷ []; links = [] }

pub reversed : (group_prefix g (pack 1 0 ∷ pack 2 1 ∷ []) ≡ 65 ∷ 67 ∷ []) × (group_prefix g (pack 2 1 ∷ pack 1 0 ∷ []) ≡ 65 ∷ 99 ∷ [])
unfolding complement_of is_letter upper_of is_base
reversed = (refl, refl)
