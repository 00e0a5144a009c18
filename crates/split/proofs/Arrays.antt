-- What the stores of a split leave in the arrays.
use Prim.Native.Nat.{ℕ, ◌+◌, ◌*◌}
use mathlib.Core.Path.{◌≡◌, ap, ◌∙◌}
use mathlib.Core.List.{List, [], ◌∷◌, ◌++◌, map}
use native.Mathlib.Omega.{arith}
use lib.ListN.{length, drop, length-map, length-append}
use Rattle.kit.specs.Layout.{Layout, decode, encode}
use Rattle.kit.proofs.Laws.{length-decode, then-decode, then-drop}
use Rattle.store.specs.declared.Counts.{Counts}
use Rattle.store.specs.Graph.{node_layout, link_layout, nodes_of, links_of, graph_of}
use Rattle.store.specs.Views.{largest}
use Rattle.split.specs.Split.{split_nodes, split_links, split}

one_more : {A : Type 0} (L : Layout A) (n : ℕ) (l : List ℕ) (f : A → A) (a : A) → length (map f (decode L n l) ++ (a ∷ [])) ≡ n + 1
one_more L n l f a =
    length-append (map f (decode L n l)) (a ∷ []) ∙ ap (λ (m : ℕ). m + 1) (length-map (decode L n l) f ∙ length-decode L n l)

-- a map of the records in place, and then one record more:
-- m is what the map of l's records left, and k what the record after them left of m
pub map_push : {A : Type 0} (L : Layout A) (n : ℕ) (l : List ℕ) (f : A → A) (a : A) {m k : List ℕ} → m ≡ encode L (map f (decode L n l)) ++ drop (L.stride * n) l → k ≡ encode L (decode L n m ++ (a ∷ [])) ++ drop (L.stride * (n + 1)) m → k ≡ encode L (map f (decode L n l) ++ (a ∷ [])) ++ drop (L.stride * (n + 1)) l
map_push L n l f a {m} {k} e q =
    let rs = map f (decode L n l) in
    let many : length rs ≡ n = length-map (decode L n l) f ∙ length-decode L n l in
    q ∙ rw (e, then-decode L n rs (drop (L.stride * n) l) many, then-drop L n (n + 1) rs l many (omega arith))

-- the arrays that the function `split` leaves hold the graph after the split
pub graph_after : (nodes letters links : List ℕ) (c : Counts) (id k fresh : ℕ) {nodes' links' : List ℕ} → fresh ≡ largest (nodes_of c.nodes nodes) + 1 → nodes' ≡ encode node_layout (split_nodes id k (nodes_of c.nodes nodes)) ++ drop (4 * (c.nodes + 1)) nodes → links' ≡ encode link_layout (split_links id fresh (links_of c.links links)) ++ drop (3 * (c.links + 1)) links → graph_of nodes' letters links' (record { nodes = c.nodes + 1; letters = c.letters; links = c.links + 1 }) ≡ split id k (graph_of nodes letters links c)
graph_after nodes letters links c id k fresh {nodes'} {links'} f e q =
    let rs = split_nodes id k (nodes_of c.nodes nodes) in
    let ls = split_links id fresh (links_of c.links links) in
    let a : nodes_of (c.nodes + 1) nodes' ≡ rs = rw e (then-decode node_layout (c.nodes + 1) rs _ (one_more node_layout c.nodes nodes _ _)) in
    let b : links_of (c.links + 1) links' ≡ ls = rw q (then-decode link_layout (c.links + 1) ls _ (one_more link_layout c.links links _ _)) in
    rw (a, b, f)
