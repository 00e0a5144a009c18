-- A well-formed graph has what the links of a collapse ask for, where its members are live nodes, no two of them one.
use Prim.Native.Nat.{ℕ, ◌+◌, ◌≤◌}
use mathlib.Core.Path.{◌≡◌, ◌∙◌}
use mathlib.Core.Bool.{true}
use mathlib.Core.List.{List, map}
use native.Mathlib.Omega.{arith}
use borrow.Author.Tests.{le-leb}
use lib.Dec.{eqb}
use lib.ListN.{length}
use Rattle.kit.specs.Loops.{all, distinct, count}
use Rattle.kit.proofs.Bools.{and_both, and_true_l}
use Rattle.kit.proofs.Meaning.{all_map, all_mem, all_of, any_mem, any_some}
use Rattle.handle.specs.declared.Handle.{Handle}
use Rattle.handle.specs.Handle.{max_id, id_of}
use Rattle.store.specs.Graph.{Graph}
use Rattle.store.specs.declared.Link.{Link}
use Rattle.store.specs.Views.{named, stored, node_named, unmarked_node, live_here, live_node, largest}
use Rattle.formed.specs.WellFormed.{good_node, good_link, good_graph}
use Rattle.formed.proofs.Says.{node_says, link_says, graph_says}
use Rattle.split.proofs.Nodes.{names, stored-largest}
use Rattle.merging.specs.Plan.{dim, long_by}
use Rattle.linking.specs.Fit.{ends_named, is_named, Plans}

module _ (g : Graph) (good : good_graph g ≡ true) where
  low : (j : ℕ) → stored j g.nodes ≡ true → 1 ≤ j
  low j t =
      let n = names j g.nodes t in
      omega (arith, (node_says g.letters (node_named j g.nodes) (all_mem (good_node g.letters) (graph_says g good).nodes_good n.mem)).id_low, n.has)

  is_stored : (j : ℕ) → live_node j g.nodes ≡ true → stored j g.nodes ≡ true
  is_stored j t =
      let r = any_some (live_here j) g.nodes t in
      any_mem (named j) r.1 (and_true_l (named j r.0) (unmarked_node r.0) r.2)

  member : (m : Handle) → live_node (id_of m) g.nodes ≡ true → is_named (largest g.nodes) m ≡ true
  member m t =
      let s = is_stored (id_of m) t in
      and_both _ _ (le-leb 1 (id_of m) (low (id_of m) s)) (le-leb (id_of m) (largest g.nodes) (stored-largest (id_of m) g.nodes s))

  ends : (r : Link) → good_link g.nodes r ≡ true → ends_named r ≡ true
  ends r t =
      let s = link_says g.nodes r t in
      and_both _ _ (le-leb 1 (id_of r.from) (low _ s.from_stored)) (le-leb 1 (id_of r.to) (low _ s.to_stored))

  pub plans_good : (p : ℕ) (ms : List Handle) → 1 ≤ length ms → all (λ m. live_node (id_of m) g.nodes) ms ≡ true → distinct (λ u v. eqb (id_of u) (id_of v)) ms ≡ true → largest g.nodes + count (long_by p g.nodes) ms ≤ max_id → Plans p g.nodes (map (dim g.nodes) g.links) ms
  plans_good p ms some live apart enough =
      record {
        some = some;
        enough = enough;
        ids = all_of _ ms (λ m k. member m (all_mem (λ m. live_node (id_of m) g.nodes) live k));
        apart = apart;
        ends = all_map ends_named (dim g.nodes) g.links ∙ all_of _ g.links (λ r k. ends r (all_mem (good_link g.nodes) (graph_says g good).links_good k));
      }
