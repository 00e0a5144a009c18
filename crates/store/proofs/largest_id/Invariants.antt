use Prim.Native.Nat.{max}
use mathlib.Core.Path.{◌≡◌}
use lib.ListN.{drop}
use Rattle.store.specs.Views.{largest}
use Rattle.store.specs.Graph.{nodes_of}
use Rattle.store.proofs.largest_id.Given as goal

abbrev pub invariant-loop-i : goal.invariant-loop-i
invariant-loop-i l = max l.best (largest (drop l.i (nodes_of l.count l.nodes))) ≡ largest (nodes_of l.count l.nodes)
