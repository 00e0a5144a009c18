-- The definitions on small graphs.
use Prim.Native.Nat.{ℕ}
use mathlib.Core.Path.{◌≡◌, refl}
use mathlib.Core.List.{List, [], ◌∷◌, map}
use native.Mathlib.Omega.{arith}
use Rattle.letters.specs.Letters.{is_letter, complement_of}
use Rattle.handle.specs.declared.Handle.{Handle}
use Rattle.handle.specs.Handle.{pack, flip, before}
use Rattle.handle.specs.Edge.{edge, written}
use Rattle.store.specs.Graph.{Graph, node, link}
use Rattle.merging.specs.Merging.{collapsed, shared_node}
use Rattle.merging.specs.Plan.{dim, planned, remark, merged_nodes}
use Rattle.merged.proofs.Members.{Collapses}

abbrev pub letters : List ℕ
letters = 65 ∷ 65 ∷ 67 ∷ 71 ∷ 65 ∷ 67 ∷ 84 ∷ []

-- C8: 1 is A, 2 is ACG, 3 is ACT; 1+ to 2+, 1+ to 3+
abbrev pub g : Graph
g =
    record {
      nodes = node 1 0 1 0 ∷ node 2 1 3 0 ∷ node 3 4 3 0 ∷ [];
      letters = letters;
      links = link (edge (pack 1 0) (pack 2 0)) 0 ∷ link (edge (pack 1 0) (pack 3 0)) 0 ∷ [];
    }

abbrev pub ms : List Handle
ms = pack 2 0 ∷ pack 3 0 ∷ []

c8-nodes : (collapsed 2 g ms).nodes ≡ node 1 0 1 0 ∷ node 2 1 2 0 ∷ node 3 4 2 1 ∷ node 4 3 1 0 ∷ node 5 6 1 0 ∷ []
unfolding flip written before
c8-nodes = refl

c8-links : (collapsed 2 g ms).links ≡ link (edge (pack 1 0) (pack 2 0)) 0 ∷ link (edge (pack 1 0) (pack 3 0)) 0 ∷ link (edge (pack 2 0) (pack 4 0)) 0 ∷ link (edge (pack 3 0) (pack 5 0)) 0 ∷ link (edge (pack 2 0) (pack 5 0)) 0 ∷ []
unfolding flip written before
c8-links = refl

ways : (merged_nodes 2 g.nodes ms ≡ (collapsed 2 g ms).nodes) × (remark g.links (planned 2 g.nodes (map (dim g.nodes) g.links) ms) ≡ (collapsed 2 g ms).links) × (shared_node 2 g ms ≡ pack 2 0)
unfolding flip written before
ways = (refl, refl, refl)

-- a reversed first member, then an exact one with a hairpin: 1 is AC, 2 is G, 3 is T; 2+ to 2-, 2+ to 3+
abbrev pub g' : Graph
g' =
    record {
      nodes = node 1 0 2 0 ∷ node 2 2 1 0 ∷ node 3 3 1 0 ∷ [];
      letters = 65 ∷ 67 ∷ 71 ∷ 84 ∷ [];
      links = link (edge (pack 2 0) (pack 2 1)) 0 ∷ link (edge (pack 2 0) (pack 3 0)) 0 ∷ [];
    }

abbrev pub ms' : List Handle
ms' = pack 1 1 ∷ pack 2 0 ∷ []

-- the hairpin is read as one of the shared node 4-
hairpin : (collapsed 1 g' ms').links ≡ link (edge (pack 2 0) (pack 2 1)) 0 ∷ link (edge (pack 2 0) (pack 3 0)) 0 ∷ link (edge (pack 1 0) (pack 4 0)) 0 ∷ link (edge (pack 4 1) (pack 4 0)) 0 ∷ link (edge (pack 3 1) (pack 4 0)) 0 ∷ []
unfolding flip written before
hairpin = refl

-- both are what the theorems take for granted
members : Collapses 2 g ms × Collapses 1 g' ms'
unfolding flip written is_letter complement_of
members = (
  record { good = refl; once = refl; live = refl; apart = refl; low = omega arith; reach = refl; fits = omega arith },
  record { good = refl; once = refl; live = refl; apart = refl; low = omega arith; reach = refl; fits = omega arith },
)
