-- Both operations on walks, on small arrays: what is written, and which refusal comes first.
use Prim.Native.Nat.{ℕ}
use mathlib.Core.Path.{◌≡◌, refl}
use mathlib.Core.List.{List, [], ◌∷◌}
use Rattle.letters.specs.Letters.{complement_of, is_letter}
use Rattle.handle.specs.Handle.{flip}
use Rattle.handle.specs.Edge.{written}
use Rattle.store.specs.declared.Counts.{Counts}
use Rattle.events.specs.declared.Used.{Used}
use Rattle.walking.specs.SpellWalk as s
use Rattle.walking.specs.TransformWalk as t

-- 1 is A, 2 is AcG, and 1+ to 2+
abbrev nodes : List ℕ
nodes = 1 ∷ 0 ∷ 1 ∷ 0 ∷ 2 ∷ 1 ∷ 3 ∷ 0 ∷ []

abbrev letters : List ℕ
letters = 65 ∷ 65 ∷ 99 ∷ 71 ∷ []

abbrev links : List ℕ
links = 2 ∷ 4 ∷ 0 ∷ []

abbrev c : Counts
c = record { nodes = 2; letters = 4; links = 1 }

abbrev spelled : List ℕ → List ℕ → s.Outcome
spelled walk out = s.spell_outcome nodes letters links c walk out

-- 2- 1- reads CgT T
writes : spelled (5 ∷ 3 ∷ []) (1 ∷ 2 ∷ 3 ∷ 4 ∷ 5 ∷ []) ≡ s.outcome (s.answer 0 0 4) (67 ∷ 103 ∷ 84 ∷ 84 ∷ 5 ∷ [])
unfolding s.spell_outcome complement_of is_letter flip written
writes = refl

-- 6 before 23 before 7
refuses : (spelled (4 ∷ 4 ∷ 6 ∷ []) [] ≡ s.refused 6 0 []) × (spelled (2 ∷ 4 ∷ 4 ∷ []) [] ≡ s.refused 23 2 []) × (spelled (2 ∷ 4 ∷ []) (9 ∷ 9 ∷ 9 ∷ []) ≡ s.refused 7 0 (9 ∷ 9 ∷ 9 ∷ []))
unfolding s.spell_outcome complement_of is_letter flip written
refuses = (refl, refl, refl)

-- (2,3) as >2>4
abbrev rules : List ℕ
rules = 2 ∷ 3 ∷ 0 ∷ 2 ∷ []

abbrev steps : List ℕ
steps = 4 ∷ 2 ∷ 8 ∷ 1 ∷ []

abbrev u : Used
u = record { rules = 1; steps = 2 }

abbrev rewritten : List ℕ → List ℕ → t.Outcome
rewritten walk out = t.transform_outcome nodes letters links c rules steps u walk out

-- 2- 1- becomes 4- 2- 1-
rewrites : rewritten (5 ∷ 3 ∷ []) (1 ∷ 2 ∷ 3 ∷ 4 ∷ []) ≡ t.outcome (t.answer 0 3) (9 ∷ 5 ∷ 3 ∷ 4 ∷ [])
unfolding t.transform_outcome complement_of is_letter flip written
rewrites = refl

-- 6 before 7
declines : (rewritten (4 ∷ 6 ∷ []) [] ≡ t.refused 6 []) × (rewritten (4 ∷ []) (7 ∷ []) ≡ t.refused 7 (7 ∷ []))
unfolding t.transform_outcome complement_of is_letter flip written
declines = (refl, refl)
