use Prim.Native.Nat.{◌-◌, ◌≤◌}
use mathlib.Core.Path.{◌≡◌}
use mathlib.Core.List.{map}
use lib.ListN.{length, drop}
use Rattle.store.specs.Graph.{nodes_of}
use Rattle.spelling.specs.Spelling.{all_stored}
use Rattle.text.specs.Steps.{walk_handle, walk_steps, walk_handles}
use Rattle.reading.proofs.steps.walk_stored.Given as goal

abbrev pub invariant-loop-at : goal.invariant-loop-at
invariant-loop-at l = (l.at ≤ length l.walk) × (all_stored (nodes_of l.count l.nodes) (map walk_handle (walk_steps (drop l.at l.walk))) ≡ all_stored (nodes_of l.count l.nodes) (walk_handles l.walk))

abbrev pub decreases-loop-at : goal.decreases-loop-at
decreases-loop-at l = length l.walk - l.at
