-- C8's new graph as it is lent, and records against it: 0, and each of 13, 5, 21, 22 and 23 with its places.
use Prim.Native.Nat.{ℕ}
use mathlib.Core.Path.{◌≡◌, refl}
use mathlib.Core.List.{List, [], ◌∷◌}
use Rattle.letters.specs.Letters.{complement_of, is_letter}
use Rattle.handle.specs.Handle.{flip}
use Rattle.handle.specs.Edge.{written}
use Rattle.scanning.specs.declared.Verdict.{Verdict}
use Rattle.scanning.specs.Rules.{verdict}
use Rattle.records.specs.declared.Step.{Step}
use Rattle.records.specs.Records.{record_of, steps_outcome}

-- 1 is A, 2 is AC, 4 is G, and T has an id to be given; 1+ to 2+, 2+ to 4+
abbrev outcome : ℕ → List Step → Verdict
outcome id rs =
    steps_outcome (1 ∷ 0 ∷ 1 ∷ 0 ∷ 2 ∷ 1 ∷ 2 ∷ 0 ∷ 4 ∷ 3 ∷ 1 ∷ 0 ∷ id ∷ 6 ∷ 1 ∷ 0 ∷ [])
    (65 ∷ 65 ∷ 67 ∷ 71 ∷ 65 ∷ 67 ∷ 84 ∷ []) (2 ∷ 4 ∷ 0 ∷ 4 ∷ 8 ∷ 0 ∷ []) (record { nodes = 4; letters = 7; links = 2 }) rs

-- >2>4, and nothing
fine : (outcome 5 (record_of 2 0 2 ∷ record_of 4 0 1 ∷ []) ≡ verdict 0 0 0) × (outcome 5 [] ≡ verdict 0 0 0)
unfolding steps_outcome complement_of is_letter written flip
fine = (refl, refl)

-- no node 9; 4 recorded as two letters; no link 2+ to 4-
by_step : (outcome 5 (record_of 2 0 2 ∷ record_of 9 0 1 ∷ []) ≡ verdict 21 0 1) × (outcome 5 (record_of 2 0 2 ∷ record_of 4 0 2 ∷ []) ≡ verdict 22 0 1) × (outcome 5 (record_of 2 0 2 ∷ record_of 4 1 1 ∷ []) ≡ verdict 23 0 1)
unfolding steps_outcome complement_of is_letter written flip
by_step = (refl, refl, refl)

-- a direction and an id out of range, also after another fault; an id given twice, before a fault and after 13
in_order_lem : (outcome 5 (record_of 2 2 2 ∷ []) ≡ verdict 13 0 0) × (outcome 5 (record_of 9 0 1 ∷ record_of 0 0 1 ∷ []) ≡ verdict 13 0 0) × (outcome 1 (record_of 9 0 1 ∷ []) ≡ verdict 5 0 0) × (outcome 1 (record_of 0 0 1 ∷ []) ≡ verdict 13 0 0)
unfolding steps_outcome complement_of is_letter written flip
in_order_lem = (refl, refl, refl, refl)
