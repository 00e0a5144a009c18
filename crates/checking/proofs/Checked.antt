-- check_transform on the arrays of C8: what passes, and which refusal comes first.
use Prim.Native.Nat.{ℕ}
use mathlib.Core.Path.{◌≡◌, refl}
use mathlib.Core.List.{List, [], ◌∷◌}
use Rattle.letters.specs.Letters.{complement_of, upper_of, is_base, is_letter}
use Rattle.handle.specs.Handle.{flip, before}
use Rattle.handle.specs.Edge.{written, edge_before}
use Rattle.events.specs.declared.Used.{Used}
use Rattle.scanning.specs.declared.Verdict.{Verdict}
use Rattle.scanning.specs.Rules.{verdict}
use Rattle.checking.specs.CheckTransform.{Lent, lent, check_outcome}

abbrev letters : List ℕ
letters = 65 ∷ 65 ∷ 67 ∷ 71 ∷ 65 ∷ 67 ∷ 84 ∷ []

-- 1 is A, 2 is ACG, 3 is ACT; 1+ to 2+, 1+ to 3+; node 3 marked or not
abbrev old : ℕ → Lent
old mark =
    lent (1 ∷ 0 ∷ 1 ∷ 0 ∷ 2 ∷ 1 ∷ 3 ∷ 0 ∷ 3 ∷ 4 ∷ 3 ∷ mark ∷ []) letters (2 ∷ 4 ∷ 0 ∷ 2 ∷ 6 ∷ 0 ∷ [])
    (record { nodes = 3; letters = 7; links = 2 })

-- 1 is A, 2 is AC, 4 is G, and T under an id; 1+ to 2+, 2+ to 4+, 2+ to 5+
abbrev new : ℕ → Lent
new id =
    lent (1 ∷ 0 ∷ 1 ∷ 0 ∷ 2 ∷ 1 ∷ 2 ∷ 0 ∷ 4 ∷ 3 ∷ 1 ∷ 0 ∷ 5 ∷ 6 ∷ 1 ∷ 0 ∷ id ∷ 6 ∷ 1 ∷ 0 ∷ []) letters (2 ∷ 4 ∷ 0 ∷ 4 ∷ 8 ∷ 0 ∷ 4 ∷ 10 ∷ 0 ∷ [])
    (record { nodes = 5; letters = 7; links = 3 })

abbrev u : Used
u = record { rules = 2; steps = 4 }

-- (2,3) as >2>4, and (3,3) as >2>5 or as what stands at another place
abbrev check : ℕ → ℕ → ℕ → List ℕ → Verdict
check mark id first protected =
    check_outcome (old mark) (new id) (2 ∷ 3 ∷ 0 ∷ 2 ∷ 3 ∷ 3 ∷ first ∷ 2 ∷ []) (4 ∷ 2 ∷ 8 ∷ 1 ∷ 4 ∷ 2 ∷ 10 ∷ 1 ∷ []) u protected

passes : (check 0 6 2 [] ≡ verdict 0 0 0) × (check 0 6 2 (3 ∷ 1 ∷ []) ≡ verdict 0 0 0)
unfolding check_outcome flip written before edge_before complement_of upper_of is_base is_letter
passes = (refl, refl)

-- a marked old node before an id twice, that before a protected id that no old node has, that before 25 and 28
refuses : (check 1 5 0 (4 ∷ []) ≡ verdict 13 0 0) × (check 0 5 0 (4 ∷ []) ≡ verdict 5 0 0) × (check 0 6 0 (4 ∷ []) ≡ verdict 6 0 0) × (check 0 6 0 (2 ∷ 3 ∷ []) ≡ verdict 25 1 0) × (check 0 6 2 (2 ∷ 3 ∷ []) ≡ verdict 28 1 0)
unfolding check_outcome flip written before edge_before complement_of upper_of is_base is_letter
refuses = (refl, refl, refl, refl, refl)
