-- P and W lines with their walks rewritten: 01 "Reading and writing", output; and what their text is refused for: 01
-- "Numbers that say no", 1, 2 and 6, in the order of a reading.
use Rattle.std.specs.Prelude.{ℕ, Bool, cond, not, ◌||◌, List, [], ◌++◌, eqb}
use Rattle.kit.specs.Loops.{all, keep, lines}
use Rattle.store.specs.Graph.{Graph}
use Rattle.store.specs.declared.Node.{Node}
use Rattle.events.specs.Events.{Rules}
use Rattle.spelling.specs.Spelling.{all_stored}
use Rattle.rewriting.specs.Rewriting.{transform_walk}
use Rattle.text.specs.Bytes.{bytes}
use Rattle.text.specs.Pieces.{lines_of, field, is_line}
use Rattle.text.specs.Refusal.{first_number}
use Rattle.text.specs.Steps.{path_handles, walk_handles}
use Rattle.text.specs.Fields.{line_number, handles_said}
use Rattle.writing.specs.Marks.{path_text, walk_text}

abbrev pub is_path_line : List ℕ → Bool
is_path_line line = is_line 80 line || is_line 87 line

-- P, the name, the steps, `*`
unfoldable pub new_path : Graph → Rules → List ℕ → List ℕ
new_path old t line = bytes "P\t" ++ field 1 line ++ bytes "\t" ++ path_text (transform_walk old t (path_handles (field 2 line))) ++ bytes "\t*\n"

-- W, the five name fields, the walk
unfoldable pub new_walk : Graph → Rules → List ℕ → List ℕ
new_walk old t line =
    bytes "W\t" ++ field 1 line ++ bytes "\t" ++ field 2 line ++ bytes "\t" ++ field 3 line ++ bytes "\t" ++ field 4 line ++ bytes "\t"
    ++ field 5 line
    ++ bytes "\t"
    ++ walk_text (transform_walk old t (walk_handles (field 6 line)))
    ++ bytes "\n"

-- nothing of other lines
abbrev pub new_line : Graph → Rules → List ℕ → List ℕ
new_line old t line = cond (is_line 80 line) (new_path old t line) (cond (is_line 87 line) (new_walk old t line) [])

-- in file order; tags are dropped
abbrev pub paths_text : Graph → Rules → List ℕ → List ℕ
paths_text old t text = lines (new_line old t) (lines_of text)

-- pass one: what each P or W line is refused for, line by line; pass two: 6
abbrev pub paths_number : List Node → List ℕ → ℕ
paths_number nodes text =
    let ls = keep is_path_line (lines_of text) in
    let number = first_number line_number ls in
    cond (not (eqb number 0)) number
    (cond (not (all (λ line. all_stored nodes (handles_said line)) ls)) 6
    0)
