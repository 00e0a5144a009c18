use Prim.Native.Nat.{◌-◌, ◌≤◌}
use mathlib.Core.Path.{◌≡◌}
use mathlib.Core.List.{map}
use lib.ListN.{length, drop}
use Rattle.store.specs.Graph.{nodes_of}
use Rattle.spelling.specs.Spelling.{all_stored}
use Rattle.text.specs.Steps.{path_handle, path_steps, path_handles}
use Rattle.reading.proofs.steps.path_stored.Given as goal

abbrev pub invariant-loop-count : goal.invariant-loop-count
invariant-loop-count l = (l.at ≤ length l.path) × (all_stored (nodes_of l.count l.nodes) (map path_handle (path_steps (drop l.at l.path))) ≡ all_stored (nodes_of l.count l.nodes) (path_handles l.path))

abbrev pub decreases-loop-count : goal.decreases-loop-count
decreases-loop-count l = length l.path - l.at
