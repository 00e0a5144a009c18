use Prim.Native.Nat.{◌+◌, ◌≤◌}
use mathlib.Core.Path.{◌≡◌}
use lib.ListN.{drop}
use Rattle.kit.specs.Loops.{count}
use Rattle.store.specs.Graph.{nodes_of}
use Rattle.affix.specs.Prefix.{handles_of}
use Rattle.merging.specs.Plan.{long_by}
use Rattle.longer.proofs.count_long.Given as goal

abbrev pub invariant-loop-i : goal.invariant-loop-i
invariant-loop-i l = (l.n ≤ l.i) × (l.n + count (long_by l.p (nodes_of l.node_count l.nodes)) (drop l.i (handles_of l.members)) ≡ count (long_by l.p (nodes_of l.node_count l.nodes)) (handles_of l.members))
