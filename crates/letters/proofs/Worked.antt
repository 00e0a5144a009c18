-- Cases that compute.
use mathlib.Core.Path.{◌≡◌, refl}
use mathlib.Core.Bool.{true, not, ◌&&◌}
use mathlib.Core.List.{[], ◌∷◌, map}
use Rattle.letters.specs.Letters.{complement_of, is_letter, upper_of, is_base}
use Rattle.letters.specs.Sequences.{rev_comp, oriented, same_spelling}

-- 01 "Checked by hand", C5: AcN
pub C5 : rev_comp (65 ∷ 99 ∷ 78 ∷ []) ≡ 78 ∷ 103 ∷ 84 ∷ []
unfolding complement_of
C5 = refl

-- ACGTNacgtn, and U, which is no letter
pub pairs : map complement_of (65 ∷ 67 ∷ 71 ∷ 84 ∷ 78 ∷ 97 ∷ 99 ∷ 103 ∷ 116 ∷ 110 ∷ 85 ∷ []) ≡ 84 ∷ 71 ∷ 67 ∷ 65 ∷ 78 ∷ 116 ∷ 103 ∷ 99 ∷ 97 ∷ 110 ∷ 0 ∷ []
unfolding complement_of
pairs = refl

-- n is a letter, and no base
pub no_base : (is_letter 110 && not (is_base 110)) ≡ true
unfolding complement_of is_letter upper_of is_base
no_base = refl

-- AAc reversed spells as gTt does, and not as gT
pub spelled : (same_spelling (oriented 1 (65 ∷ 65 ∷ 99 ∷ [])) (103 ∷ 84 ∷ 116 ∷ []) && not (same_spelling (oriented 1 (65 ∷ 65 ∷ 99 ∷ [])) (103 ∷ 84 ∷ []))) ≡ true
unfolding complement_of upper_of
spelled = refl
