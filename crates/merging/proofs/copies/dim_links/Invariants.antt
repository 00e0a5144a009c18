use Prim.Native.Nat.{ℕ}
use mathlib.Core.List.{List, map}
use lib.ListN.{drop}
use Rattle.store.specs.Graph.{nodes_of, links_of}
use Rattle.store.specs.declared.Link.{Link}
use Rattle.merging.specs.Plan.{dim}
use Rattle.merging.proofs.Putting.{Putting}
use Rattle.merging.proofs.copies.dim_links.Given as goal

abbrev pub left : List ℕ → ℕ → List ℕ → ℕ → ℕ → List Link
left nodes node-count links count i = map (dim (nodes_of node-count nodes)) (drop i (links_of count links))

abbrev pub invariant-loop-i : goal.invariant-loop-i
invariant-loop-i l = Putting l.initial.plan l.plan l.i (left l.nodes l.node_count l.links l.count l.i) (left l.nodes l.node_count l.links l.count 0)
