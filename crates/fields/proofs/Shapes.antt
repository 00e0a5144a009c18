-- What a line of a known kind is refused for, in the order in which it is looked at.
use Prim.Native.Nat.{ℕ, zero, suc, ◌+◌, ◌-◌, ◌≤◌, ◌<◌}
use mathlib.Core.Path.{◌≡◌, refl, ap, ◌∙◌}
use mathlib.Core.Bool.{Bool, true, false, cond, ◌||◌}
use mathlib.Core.List.{List, [], ◌∷◌}
use native.Mathlib.Omega.{arith}
use lib.Dec.{eqb, ltb}
use lib.ListN.{length, drop, get_or}
use Rattle.kit.specs.Loops.{any}
use Rattle.kit.proofs.Bools.{tests}
use Rattle.kit.proofs.Steps.{left_at}
use Rattle.text.specs.Pieces.{fields_of, field}
use Rattle.text.specs.Refusal.{or_number}
use Rattle.text.specs.Fields.{filled, name_number, sign_number, letters_number, overlap_number, path_number, walk_number, segment_fields, link_fields, path_fields, walk_fields, fields_number, shape_number}
use Rattle.text.proofs.Refusing.{or_last}

-- the tests of fields k, k + 1 and so on, one after another
abbrev pub each_number : List (List ℕ → ℕ) → ℕ → List (List ℕ) → ℕ
each_number [] k fs = 0
each_number (t ∷ ts) k fs = or_number (t (get_or fs k [])) (each_number ts (k + 1) fs)

each_field : (ts : List (List ℕ → ℕ)) (k : ℕ) (fs : List (List ℕ)) → k + length ts ≤ length fs → fields_number ts (drop k fs) ≡ each_number ts k fs
each_field [] k fs h = refl
each_field (t ∷ ts) k fs h =
    let e : drop k fs ≡ get_or fs k [] ∷ drop (k + 1) fs = left_at fs k [] (omega arith) in
    rw (e, each_field ts (k + 1) fs (omega arith))

-- a line: what it is refused for as a whole, then its fields
module _ (ts : List (List ℕ → ℕ)) (line : List ℕ) where
  pub shape_first : shape_number ts line ≡ or_number (cond (ltb (length (fields_of line)) (length ts + 1) || any (eqb 13) line) 1 0) (each_number ts 1 (fields_of line))
  unfolding shape_number
  shape_first = by (ltb (length (fields_of line)) (length ts + 1)) refl (any (eqb 13) line)
    where
      by : (a : Bool) → ltb (length (fields_of line)) (length ts + 1) ≡ a → (b : Bool) → cond a 1 (cond b 1 (fields_number ts (drop 1 (fields_of line)))) ≡ or_number (cond (a || b) 1 0) (each_number ts 1 (fields_of line))
      by true q b = refl
      by false q true = refl
      by false q false = each_field ts 1 (fields_of line) (omega (arith, tests))

or_either : (a b m : ℕ) → or_number a (or_number b m) ≡ or_number (or_number a b) m
or_either a b m = by (eqb a 0) refl
  where
    by : (t : Bool) → eqb a 0 ≡ t → cond t (or_number b m) a ≡ or_number (cond t b a) m
    by true q = refl
    by false q = rw q

-- a link's end at field k
abbrev end_number : List ℕ → ℕ → ℕ
end_number line k = or_number (name_number (field k line)) (sign_number (field (k + 1) line))

-- the kinds of lines, part by part
module _ (line : List ℕ) where
  abbrev ill : ℕ → ℕ
  ill n = cond (ltb (length (fields_of line)) n || any (eqb 13) line) 1 0

  pub segment_first : shape_number segment_fields line ≡ or_number (ill 3) (or_number (name_number (field 1 line)) (letters_number (field 2 line)))
  segment_first =
      shape_first segment_fields line
      ∙ ap (λ (n : ℕ). or_number (ill 3) (or_number (name_number (field 1 line)) n)) (or_last (letters_number (field 2 line)))

  pub link_first : shape_number link_fields line ≡ or_number (ill 6) (or_number (end_number line 1) (or_number (end_number line 3) (overlap_number (field 5 line))))
  link_first =
      let last : ℕ = or_number (overlap_number (field 5 line)) 0 in
      let to : ℕ = or_number (name_number (field 3 line)) (or_number (sign_number (field 4 line)) last) in
      shape_first link_fields line
      ∙ ap (or_number (ill 6))
      (or_either (name_number (field 1 line)) (sign_number (field 2 line)) to
      ∙ ap (or_number (end_number line 1))
      (or_either (name_number (field 3 line)) (sign_number (field 4 line)) last
      ∙ ap (or_number (end_number line 3)) (or_last (overlap_number (field 5 line)))))

  pub path_first : shape_number path_fields line ≡ or_number (ill 4) (or_number (filled (field 1 line)) (or_number (path_number (field 2 line)) (filled (field 3 line))))
  path_first =
      shape_first path_fields line
      ∙ ap (λ (n : ℕ). or_number (ill 4) (or_number (filled (field 1 line)) (or_number (path_number (field 2 line)) n))) (or_last (filled (field 3 line)))

  pub walk_first : shape_number walk_fields line ≡ or_number (ill 7) (each_number walk_fields 1 (fields_of line))
  walk_first = shape_first walk_fields line

-- the last tests of a walk line: n fields that need only be filled, then the walk
abbrev pub walk_last : ℕ → List (List ℕ → ℕ)
walk_last zero = walk_number ∷ []
walk_last (suc n) = filled ∷ walk_last n

module _ (fs : List (List ℕ)) (k : ℕ) where
  pub walk_next : k < 6 → each_number (walk_last (6 - k)) k fs ≡ or_number (filled (get_or fs k [])) (each_number (walk_last (6 - (k + 1))) (k + 1) fs)
  walk_next h =
      let z : 6 - k ≡ suc (6 - (k + 1)) = omega arith in
      rw z
