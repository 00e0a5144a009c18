use Prim.Native.Nat.{◌+◌}
use mathlib.Core.Path.{◌≡◌}
use lib.ListN.{drop}
use Rattle.store.specs.Views.{live_letters}
use Rattle.store.specs.Graph.{nodes_of}
use Rattle.store.proofs.live_letters.Given as goal

abbrev pub invariant-loop-i : goal.invariant-loop-i
invariant-loop-i l = l.sum + live_letters (drop l.i (nodes_of l.count l.nodes)) ≡ live_letters (nodes_of l.count l.nodes)
