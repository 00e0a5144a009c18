-- parse_and_transform_paths on small arrays: what is written, and which refusal comes first.
use Prim.Native.Nat.{ℕ}
use mathlib.Core.Path.{◌≡◌, refl}
use mathlib.Core.List.{List, [], ◌∷◌}
use Rattle.kit.specs.Decimal.{decimal}
use Rattle.letters.specs.Letters.{complement_of, is_letter}
use Rattle.handle.specs.Handle.{flip}
use Rattle.handle.specs.Edge.{written}
use Rattle.store.specs.declared.Counts.{Counts}
use Rattle.text.specs.Bytes.{bytes}
use Rattle.text.specs.Fields.{line_number, shape_number, handles_said}
use Rattle.writing.specs.Marks.{path_text, walk_text}
use Rattle.writing.specs.Outcome.{Outcome, outcome, refused}
use Rattle.paths.specs.PathText.{new_path, new_walk}
use Rattle.texts.specs.ParseAndTransformPaths.{paths_outcome}

-- 1 is A, 2 is AcG; (2,3) as >2>4
abbrev on : Counts → List ℕ → List ℕ → Outcome
on c text room =
    paths_outcome text (1 ∷ 0 ∷ 1 ∷ 0 ∷ 2 ∷ 1 ∷ 3 ∷ 0 ∷ []) (65 ∷ 65 ∷ 99 ∷ 71 ∷ []) [] c (2 ∷ 3 ∷ 0 ∷ 2 ∷ []) (4 ∷ 2 ∷ 8 ∷ 1 ∷ []) (record { rules = 1; steps = 2 }) room

abbrev c : Counts
c = record { nodes = 2; letters = 4; links = 0 }

-- 15 bytes
writes : on c (bytes "P\tx\t1+,2-\t*\ttag") (bytes "0123456789abcdef") ≡ outcome (record { number = 0; len = 15 }) (bytes "P\tx\t1+,4-,2-\t*\nf")
unfolding paths_outcome new_path new_walk path_text walk_text decimal flip line_number shape_number handles_said complement_of is_letter written
writes = refl

-- 13; 2 of a later line before 6; 6 before 7; 7
refuses : (on (record { nodes = 2; letters = 3; links = 0 }) (bytes "P") [] ≡ refused 13 []) × (on c (bytes "P\tx\t3+\t*\nP\tx\t0+\t*") [] ≡ refused 2 []) × (on c (bytes "P\tx\t3+\t*") [] ≡ refused 6 []) × (on c (bytes "P\tx\t1+,2-\t*") (bytes "0123456789abcd") ≡ refused 7 (bytes "0123456789abcd"))
unfolding paths_outcome new_path new_walk path_text walk_text decimal flip line_number shape_number handles_said complement_of is_letter written
refuses = (refl, refl, refl, refl)
