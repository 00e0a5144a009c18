-- What is stored: 01 "Nodes, letters, links", fourth entry. Nodes and links lie in flat arrays of numbers, one record after
-- another; a graph is the records that the counts say are in use.
use Rattle.std.specs.Prelude.{ℕ, ◌+◌, ◌*◌, ◌≤◌, ◌≡◌, refl, List, [], ◌∷◌, length, take, get_or}
use Rattle.std.proofs.Common.{arith}
use Rattle.kit.specs.Layout.{Layout, decode}
use Rattle.handle.specs.declared.Handle.{Handle}
use Rattle.handle.specs.declared.Edge.{Edge}
use Rattle.handle.specs.Edge.{edge}
use Rattle.store.specs.declared.Counts.{Counts}
use Rattle.store.specs.declared.Node.{Node}
use Rattle.store.specs.declared.Link.{Link}

abbrev pub node : ℕ → ℕ → ℕ → ℕ → Node
node id start len mark = record { id = id; start = start; len = len; mark = mark }

abbrev pub link : Edge → ℕ → Link
link e mark = record { from = e.from; to = e.to; mark = mark }

abbrev pub ends : Link → Edge
ends r = edge r.from r.to

pub record Graph : Type 0 where
  pub nodes : List Node
  pub letters : List ℕ
  pub links : List Link

abbrev pub pack_node : Node → List ℕ
pack_node r = r.id ∷ r.start ∷ r.len ∷ r.mark ∷ []

abbrev pub unpack_node : List ℕ → Node
unpack_node l = node (get_or l 0 0) (get_or l 1 0) (get_or l 2 0) (get_or l 3 0)

pub near_node : (l : List ℕ) → unpack_node (take 4 l) ≡ unpack_node l
near_node [] = refl
near_node (a ∷ []) = refl
near_node (a ∷ b ∷ []) = refl
near_node (a ∷ b ∷ c ∷ []) = refl
near_node (a ∷ b ∷ c ∷ d ∷ l) = refl

pub whole_node : (l : List ℕ) → 4 ≤ length l → pack_node (unpack_node l) ≡ take 4 l
whole_node [] h = absurd (omega arith)
whole_node (a ∷ []) h = absurd (omega arith)
whole_node (a ∷ b ∷ []) h = absurd (omega arith)
whole_node (a ∷ b ∷ c ∷ []) h = absurd (omega arith)
whole_node (a ∷ b ∷ c ∷ d ∷ l) h = refl

abbrev pub node_layout : Layout Node
node_layout =
    record {
      stride = 4;
      pack = pack_node;
      unpack = unpack_node;
      packed = λ a. refl;
      unpack_pack = λ a r. refl;
      near = near_node;
      pack_unpack = whole_node;
    }

abbrev pub handle : ℕ → Handle
handle n = record { packed = n }

abbrev pub pack_link : Link → List ℕ
pack_link r = r.from.packed ∷ r.to.packed ∷ r.mark ∷ []

abbrev pub unpack_link : List ℕ → Link
unpack_link l = link (edge (handle (get_or l 0 0)) (handle (get_or l 1 0))) (get_or l 2 0)

pub near_link : (l : List ℕ) → unpack_link (take 3 l) ≡ unpack_link l
near_link [] = refl
near_link (a ∷ []) = refl
near_link (a ∷ b ∷ []) = refl
near_link (a ∷ b ∷ c ∷ l) = refl

pub whole_link : (l : List ℕ) → 3 ≤ length l → pack_link (unpack_link l) ≡ take 3 l
whole_link [] h = absurd (omega arith)
whole_link (a ∷ []) h = absurd (omega arith)
whole_link (a ∷ b ∷ []) h = absurd (omega arith)
whole_link (a ∷ b ∷ c ∷ l) h = refl

abbrev pub link_layout : Layout Link
link_layout =
    record {
      stride = 3;
      pack = pack_link;
      unpack = unpack_link;
      packed = λ a. refl;
      unpack_pack = λ a r. refl;
      near = near_link;
      pack_unpack = whole_link;
    }

abbrev pub nodes_of : ℕ → List ℕ → List Node
nodes_of n l = decode node_layout n l

abbrev pub links_of : ℕ → List ℕ → List Link
links_of n l = decode link_layout n l

-- the i-th node and the i-th link
abbrev pub node_at : List ℕ → ℕ → Node
node_at l i = node (get_or l (4 * i) 0) (get_or l (4 * i + 1) 0) (get_or l (4 * i + 2) 0) (get_or l (4 * i + 3) 0)

abbrev pub link_at : List ℕ → ℕ → Link
link_at l i = link (edge (handle (get_or l (3 * i) 0)) (handle (get_or l (3 * i + 1) 0))) (get_or l (3 * i + 2) 0)

-- the graph in three lent arrays, by the counts of what is in use
abbrev pub graph_of : List ℕ → List ℕ → List ℕ → Counts → Graph
graph_of nodes letters links c =
    record { nodes = nodes_of c.nodes nodes; letters = take c.letters letters; links = links_of c.links links }
