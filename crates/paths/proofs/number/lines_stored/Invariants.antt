use Prim.Native.Nat.{ℕ, ◌-◌, ◌≤◌}
use mathlib.Core.Path.{◌≡◌}
use mathlib.Core.Bool.{Bool, true, cond}
use mathlib.Core.List.{List}
use lib.ListN.{length, drop}
use Rattle.kit.specs.Loops.{all, keep}
use Rattle.store.specs.Graph.{nodes_of}
use Rattle.store.specs.declared.Node.{Node}
use Rattle.spelling.specs.Spelling.{all_stored}
use Rattle.text.specs.Pieces.{lines_of}
use Rattle.text.specs.Fields.{handles_said}
use Rattle.paths.specs.PathText.{is_path_line}
use Rattle.paths.proofs.number.lines_stored.Given as goal

abbrev pub said : List Node → List ℕ → Bool
said nodes line = all_stored nodes (handles_said line)

abbrev pub own : List Node → List ℕ → Bool
own nodes line = cond (is_path_line line) (said nodes line) true

abbrev pub invariant-loop-count : goal.invariant-loop-count
invariant-loop-count l = (l.from ≤ length l.text) × (all (own (nodes_of l.count l.nodes)) (lines_of (drop l.from l.text)) ≡ all (said (nodes_of l.count l.nodes)) (keep is_path_line (lines_of l.text)))

abbrev pub decreases-loop-count : goal.decreases-loop-count
decreases-loop-count l = length l.text - l.from
