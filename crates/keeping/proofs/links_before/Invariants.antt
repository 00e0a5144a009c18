use Prim.Native.Nat.{◌+◌, ◌≤◌}
use mathlib.Core.Path.{◌≡◌}
use lib.ListN.{drop}
use Rattle.kit.specs.Loops.{count}
use Rattle.handle.specs.Edge.{edge_before}
use Rattle.store.specs.Graph.{ends, links_of}
use Rattle.keeping.proofs.links_before.Given as goal

abbrev pub invariant-loop-i : goal.invariant-loop-i
invariant-loop-i l = (l.n ≤ l.i) × (l.n + count (λ s. edge_before (ends s) l.e) (drop l.i (links_of l.total l.links)) ≡ count (λ s. edge_before (ends s) l.e) (links_of l.total l.links))
