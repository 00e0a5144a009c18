-- What one line alone is refused for, in this order: field count, byte 13 anywhere in the line, fields left to right. 01
-- "Numbers that say no", 1 to 4 and last paragraph.
use Rattle.std.specs.Prelude.{ℕ, ◌+◌, Bool, cond, ◌&&◌, ◌||◌, List, [], ◌∷◌, eqb, ltb, length, drop, get_or}
use Rattle.kit.specs.Loops.{any}
use Rattle.letters.specs.Sequences.{all_letters}
use Rattle.handle.specs.declared.Handle.{Handle}
use Rattle.handle.specs.Handle.{pack}
use Rattle.handle.specs.declared.Edge.{Edge}
use Rattle.handle.specs.Edge.{edge}
use Rattle.text.specs.Pieces.{fields_of, field, is_line}
use Rattle.text.specs.Names.{is_name, name_id}
use Rattle.text.specs.Steps.{is_sign, sign_dir, path_steps, path_step_number, path_handles, walk_steps, walk_step_number, walk_handles}
use Rattle.text.specs.Refusal.{or_number, first_number}

-- an empty required field is 1, of whatever kind it is
abbrev pub filled : List ℕ → ℕ
filled f = cond (eqb (length f) 0) 1 0

abbrev pub name_number : List ℕ → ℕ
name_number f = or_number (filled f) (cond (is_name f) 0 2)

abbrev pub sign_number : List ℕ → ℕ
sign_number f = cond (eqb (length f) 1 && is_sign (get_or f 0 0)) 0 1

abbrev pub letters_number : List ℕ → ℕ
letters_number f = or_number (filled f) (cond (all_letters f) 0 3)

-- `0M` or `*`
abbrev pub is_overlap : List ℕ → Bool
is_overlap f = (eqb (length f) 1 && eqb (get_or f 0 0) 42) || (eqb (length f) 2 && eqb (get_or f 0 0) 48 && eqb (get_or f 1 0) 77)

abbrev pub overlap_number : List ℕ → ℕ
overlap_number f = or_number (filled f) (cond (is_overlap f) 0 4)

abbrev pub path_number : List ℕ → ℕ
path_number f = or_number (filled f) (first_number path_step_number (path_steps f))

abbrev pub walk_number : List ℕ → ℕ
walk_number f = or_number (filled f) (first_number walk_step_number (walk_steps f))

-- the required fields after the letter, by what each is looked at for
abbrev pub segment_fields : List (List ℕ → ℕ)
segment_fields = name_number ∷ letters_number ∷ []

abbrev pub link_fields : List (List ℕ → ℕ)
link_fields = name_number ∷ sign_number ∷ name_number ∷ sign_number ∷ overlap_number ∷ []

abbrev pub path_fields : List (List ℕ → ℕ)
path_fields = filled ∷ path_number ∷ filled ∷ []

abbrev pub walk_fields : List (List ℕ → ℕ)
walk_fields = filled ∷ filled ∷ filled ∷ filled ∷ filled ∷ walk_number ∷ []

-- left to right
abbrev pub fields_number : List (List ℕ → ℕ) → List (List ℕ) → ℕ
fields_number [] fs = 0
fields_number (t ∷ ts) [] = 0
fields_number (t ∷ ts) (f ∷ fs) = or_number (t f) (fields_number ts fs)

-- field count, byte 13, fields
unfoldable pub shape_number : List (List ℕ → ℕ) → List ℕ → ℕ
shape_number ts line =
    cond (ltb (length (fields_of line)) (length ts + 1)) 1
    (cond (any (eqb 13) line) 1
    (fields_number ts (drop 1 (fields_of line))))

-- S, L, P, W are bytes 83, 76, 80, 87; other lines are passed over
unfoldable pub line_number : List ℕ → ℕ
line_number line =
    cond (is_line 83 line) (shape_number segment_fields line)
    (cond (is_line 76 line) (shape_number link_fields line)
    (cond (is_line 80 line) (shape_number path_fields line)
    (cond (is_line 87 line) (shape_number walk_fields line)
    0)))

-- what a line says that is not refused: a link's ends, and the oriented nodes that a link, a path or a walk names
abbrev pub edge_of : List ℕ → Edge
edge_of line =
    edge (pack (name_id (field 1 line)) (sign_dir (get_or (field 2 line) 0 0))) (pack (name_id (field 3 line)) (sign_dir (get_or (field 4 line) 0 0)))

unfoldable pub handles_said : List ℕ → List Handle
handles_said line =
    cond (is_line 76 line) ((edge_of line).from ∷ (edge_of line).to ∷ [])
    (cond (is_line 80 line) (path_handles (field 2 line))
    (cond (is_line 87 line) (walk_handles (field 6 line))
    []))
