-- What we read of GFA 1: docs/DIFFERENCES.md, "Against GFA 1", narrower.
use Rattle.std.specs.Prelude.{ℕ, Bool, not, ◌&&◌, ◌||◌, List, [], ◌∷◌, map, eqb, drop}
use Rattle.kit.specs.Loops.{all, any, distinct, keep}
use Rattle.letters.specs.Sequences.{all_letters}
use Rattle.store.specs.Graph.{Graph}
use Rattle.spelling.specs.Spelling.{all_stored}
use Rattle.text.specs.Pieces.{lines_of, field, is_line}
use Rattle.text.specs.Names.{is_name, name_id}
use Rattle.text.specs.Steps.{path_steps, step_name, walk_steps}
use Rattle.text.specs.Fields.{overlap_number, edge_of, handles_said}
use Rattle.reading.specs.Reading.{with_segment, with_link, empty}
use Rattle.gfa.specs.Gfa1.{is_gfa_line}

-- decimal names in range without a leading zero, the ten letters, no overlap but `0M` and `*`
abbrev pub narrow_segment : List ℕ → Bool
narrow_segment line = is_name (field 1 line) && all_letters (field 2 line)

abbrev pub narrow_link : List ℕ → Bool
narrow_link line = is_name (field 1 line) && is_name (field 3 line) && eqb (overlap_number (field 5 line)) 0

abbrev pub narrow_path : List ℕ → Bool
narrow_path line = all (λ s. is_name (step_name s)) (path_steps (field 2 line))

abbrev pub narrow_walk : List ℕ → Bool
narrow_walk line = all (λ s. is_name (drop 1 s)) (walk_steps (field 6 line))

abbrev pub is_read : List ℕ → Bool
is_read line = is_line 83 line || is_line 76 line || is_line 80 line || is_line 87 line

-- and no byte 13 in a line that is read
abbrev pub narrow_line : List ℕ → Bool
narrow_line line =
    (not (is_read line) || not (any (eqb 13) line)) && (not (is_line 83 line) || narrow_segment line)
    && (not (is_line 76 line) || narrow_link line)
    && (not (is_line 80 line) || narrow_path line)
    && (not (is_line 87 line) || narrow_walk line)

-- the graph that the lines say, in their order, with no thought of room
abbrev pub segments_into : Graph → List (List ℕ) → Graph
segments_into g [] = g
segments_into g (line ∷ ls) = segments_into (with_segment g (name_id (field 1 line)) (field 2 line)) ls

abbrev pub links_into : Graph → List (List ℕ) → Graph
links_into g [] = g
links_into g (line ∷ ls) = links_into (with_link g (edge_of line)) ls

unfoldable pub graph_said : List ℕ → Graph
graph_said text = links_into (segments_into empty (keep (is_line 83) (lines_of text))) (keep (is_line 76) (lines_of text))

-- each name is given to one segment, and each that a link, path or walk names is given
abbrev pub names_once : List ℕ → Bool
names_once text = distinct eqb (map (λ line. name_id (field 1 line)) (keep (is_line 83) (lines_of text)))

abbrev pub names_declared : List ℕ → Bool
names_declared text = all (λ line. all_stored (graph_said text).nodes (handles_said line)) (lines_of text)

-- GFA 1, and inside what we read of it
abbrev pub inside : List ℕ → Bool
inside text = all is_gfa_line (lines_of text) && all narrow_line (lines_of text) && names_once text && names_declared text
