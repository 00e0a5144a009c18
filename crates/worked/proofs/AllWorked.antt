-- Every row of the table holds: what is given is what 01 says. What becomes of C8's text is computed first, and once.
use mathlib.Core.Path.{◌≡◌, refl, ap, ◌∙◌}
use mathlib.Core.List.{[], ◌∷◌, map}
use Rattle.kit.specs.Decimal.{decimal}
use Rattle.letters.specs.Letters.{complement_of, upper_of, is_base, is_letter}
use Rattle.handle.specs.Handle.{flip, before}
use Rattle.handle.specs.Edge.{written, edge_before}
use Rattle.groups.specs.Groups.{over}
use Rattle.text.specs.Bytes.{bytes}
use Rattle.text.specs.Fields.{line_number, shape_number, handles_said}
use Rattle.reading.specs.Reading.{pass_one_line, pass_two_line}
use Rattle.reading.specs.Outcome.{read_outcome}
use Rattle.writing.specs.Marks.{walk_text, path_text}
use Rattle.writing.specs.GraphText.{segment_line, link_line}
use Rattle.writing.specs.TableText.{table_line}
use Rattle.paths.specs.PathText.{new_path}
use Rattle.asking.specs.GetSharedPrefix.{shared_prefix_outcome}
use Rattle.walking.specs.SpellWalk.{spell_outcome}
use Rattle.walking.specs.TransformWalk.{transform_outcome}
use Rattle.walking.specs.Expand.{expand_outcome}
use Rattle.checking.specs.CheckTransform.{lent, check_outcome}
use Rattle.folding.specs.CollapseAll.{collapse_all_outcome}
use Rattle.texts.specs.PrintActiveSubgraph.{subgraph_outcome}
use Rattle.texts.specs.PrintTransformations.{table_outcome}
use Rattle.texts.specs.ParseAndTransformPaths.{paths_outcome}
use Rattle.worked.specs.ByHand.{Made, room, made, text, c8, rows, worked}

-- 1 is A, 2 is ACG, 3 is ACT; then 2 is AC, 3 is marked, and fresh are 4, G, and 5, T
abbrev m : Made
m =
    record {
      old =
          lent (over (1 ∷ 0 ∷ 1 ∷ 0 ∷ 2 ∷ 1 ∷ 3 ∷ 0 ∷ 3 ∷ 4 ∷ 3 ∷ 0 ∷ []) room) (over (bytes "AACGACT") room)
          (over (2 ∷ 4 ∷ 0 ∷ 2 ∷ 6 ∷ 0 ∷ []) room) (record { nodes = 3; letters = 7; links = 2 });
      new =
          lent (over (1 ∷ 0 ∷ 1 ∷ 0 ∷ 2 ∷ 1 ∷ 2 ∷ 0 ∷ 3 ∷ 4 ∷ 2 ∷ 1 ∷ 4 ∷ 3 ∷ 1 ∷ 0 ∷ 5 ∷ 6 ∷ 1 ∷ 0 ∷ []) room) (over (bytes "AACGACT") room)
          (over (2 ∷ 4 ∷ 0 ∷ 2 ∷ 6 ∷ 0 ∷ 4 ∷ 8 ∷ 0 ∷ 6 ∷ 10 ∷ 0 ∷ 4 ∷ 10 ∷ 0 ∷ []) room) (record { nodes = 5; letters = 7; links = 5 });
      table =
          record {
            rules = over (2 ∷ 3 ∷ 0 ∷ 2 ∷ 3 ∷ 3 ∷ 2 ∷ 2 ∷ []) room;
            steps = over (4 ∷ 2 ∷ 8 ∷ 1 ∷ 4 ∷ 2 ∷ 10 ∷ 1 ∷ []) room;
            used = record { rules = 2; steps = 4 };
          };
    }

made_of : made (text c8) ≡ m
unfolding made read_outcome pass_one_line pass_two_line line_number shape_number handles_said is_letter complement_of upper_of is_base flip before written collapse_all_outcome expand_outcome
made_of = refl

rows_hold : map (λ r. r.gives) (rows m) ≡ map (λ r. r.says) (rows m)
unfolding read_outcome pass_one_line pass_two_line line_number shape_number handles_said is_letter complement_of upper_of is_base flip before written edge_before shared_prefix_outcome spell_outcome transform_outcome expand_outcome subgraph_outcome paths_outcome table_outcome check_outcome segment_line link_line table_line new_path walk_text path_text decimal
rows_hold = refl

pub all-worked : map (λ r. r.gives) worked ≡ map (λ r. r.says) worked
all-worked = ap (λ n. map (λ r. r.gives) (rows n)) made_of ∙ rows_hold
