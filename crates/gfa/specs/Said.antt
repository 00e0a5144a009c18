-- What a text says by GFA 1: its segments, links, paths and walks, by names.
use Rattle.std.specs.Prelude.{ℕ, List, map, drop, get_or}
use Rattle.kit.specs.Loops.{keep}
use Rattle.text.specs.Pieces.{lines_of, field, is_line}
use Rattle.text.specs.Steps.{sign_dir, arrow_dir, path_steps, step_sign, step_name, walk_steps}

pub record Segment : Type 0 where
  pub name : List ℕ
  pub sequence : List ℕ

-- a segment's name with a direction, 0 forward and 1 reverse
pub record Place : Type 0 where
  pub name : List ℕ
  pub dir : ℕ

abbrev pub place : List ℕ → ℕ → Place
place name dir = record { name = name; dir = dir }

pub record Join : Type 0 where
  pub from : Place
  pub to : Place

abbrev pub segment_said : List ℕ → Segment
segment_said line = record { name = field 1 line; sequence = field 2 line }

abbrev pub join_said : List ℕ → Join
join_said line =
    record {
      from = place (field 1 line) (sign_dir (get_or (field 2 line) 0 0));
      to = place (field 3 line) (sign_dir (get_or (field 4 line) 0 0));
    }

abbrev pub path_said : List ℕ → List Place
path_said line = map (λ s. place (step_name s) (sign_dir (step_sign s))) (path_steps (field 2 line))

abbrev pub walk_said : List ℕ → List Place
walk_said line = map (λ s. place (drop 1 s) (arrow_dir (get_or s 0 0))) (walk_steps (field 6 line))

abbrev pub segments : List ℕ → List Segment
segments text = map segment_said (keep (is_line 83) (lines_of text))

abbrev pub joins : List ℕ → List Join
joins text = map join_said (keep (is_line 76) (lines_of text))

abbrev pub paths : List ℕ → List (List Place)
paths text = map path_said (keep (is_line 80) (lines_of text))

abbrev pub walks : List ℕ → List (List Place)
walks text = map walk_said (keep (is_line 87) (lines_of text))
