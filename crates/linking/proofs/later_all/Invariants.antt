use Prim.Native.Nat.{ℕ}
use mathlib.Core.Path.{◌≡◌}
use mathlib.Core.List.{List, map}
use lib.ListN.{length, drop}
use Rattle.handle.specs.declared.Handle.{Handle}
use Rattle.store.specs.Graph.{handle, nodes_of, links_of}
use Rattle.store.specs.declared.Node.{Node}
use Rattle.merging.specs.Plan.{later_links_all}
use Rattle.linking.specs.Fit.{Later}
use Rattle.linking.proofs.Fitting.{Holds}
use Rattle.linking.proofs.later_all.Given as goal

-- at the head of the loop: what the members from i on make of the links that stand
pub record Inv (p : ℕ) (nodes : List Node) (x : Handle) (fresh : ℕ) (links₀ : List ℕ) (count : ℕ) (ms : List Handle) (links : List ℕ) (n next i : ℕ) : Type 0 where
  pub size : length links ≡ length links₀
  pub holds : Holds links₀ (links_of n links) n links
  pub later : Later p nodes x next (links_of n links) (drop i ms)
  pub todo : later_links_all p nodes x next (links_of n links) (drop i ms) ≡ later_links_all p nodes x fresh (links_of count links₀) (drop 1 ms)

abbrev pub invariant-loop-i : goal.invariant-loop-i
invariant-loop-i l = Inv l.p (nodes_of l.node_count l.nodes) l.x l.fresh l.initial.links l.count (map handle l.members) l.links l.n l.next l.i
