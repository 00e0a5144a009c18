use Prim.Native.Nat.{ℕ, ◌-◌, ◌≤◌}
use mathlib.Core.Path.{◌≡◌}
use mathlib.Core.Bool.{cond}
use mathlib.Core.List.{List}
use lib.ListN.{length, drop}
use Rattle.kit.specs.Loops.{keep}
use Rattle.text.specs.Pieces.{lines_of}
use Rattle.text.specs.Refusal.{first_number}
use Rattle.text.specs.Fields.{line_number}
use Rattle.paths.specs.PathText.{is_path_line}
use Rattle.paths.proofs.number.check_lines.Given as goal

abbrev pub own : List ℕ → ℕ
own line = cond (is_path_line line) (line_number line) 0

abbrev pub invariant-loop-from : goal.invariant-loop-from
invariant-loop-from l = (l.from ≤ length l.text) × (first_number own (lines_of (drop l.from l.text)) ≡ first_number line_number (keep is_path_line (lines_of l.text)))

abbrev pub decreases-loop-from : goal.decreases-loop-from
decreases-loop-from l = length l.text - l.from
