-- The definitions on a small graph: 1 is A, 2 is ACG, 3 is act and marked; 1+ to 2+, 1+ to 3+, 2+ to 2-, 2- to 2+.
use Prim.Native.Nat.{ℕ}
use mathlib.Core.Path.{◌≡◌, refl}
use mathlib.Core.Bool.{false}
use mathlib.Core.List.{List, [], ◌∷◌}
use Rattle.std.specs.Prelude.{Some, None}
use Rattle.letters.specs.Letters.{complement_of}
use Rattle.handle.specs.Handle.{pack, flip}
use Rattle.handle.specs.Edge.{edge}
use Rattle.store.specs.declared.Counts.{Counts}
use Rattle.store.specs.Graph.{Graph, graph_of}
use Rattle.store.specs.Views.{find_node, find_link, live_node, live_linked, len_of, spell, letter_of, largest, live_letters}

abbrev pub nodes : List ℕ
nodes = 1 ∷ 0 ∷ 1 ∷ 0 ∷ 2 ∷ 1 ∷ 3 ∷ 0 ∷ 3 ∷ 4 ∷ 3 ∷ 1 ∷ []

abbrev pub letters : List ℕ
letters = 65 ∷ 65 ∷ 67 ∷ 71 ∷ 97 ∷ 99 ∷ 116 ∷ []

abbrev pub links : List ℕ
links = 2 ∷ 4 ∷ 0 ∷ 2 ∷ 6 ∷ 0 ∷ 4 ∷ 5 ∷ 0 ∷ 5 ∷ 4 ∷ 0 ∷ []

abbrev pub counts : ℕ → ℕ → ℕ → Counts
counts n m k = record { nodes = n; letters = m; links = k }

abbrev pub g : Graph
g = graph_of nodes letters links (counts 3 7 4)

lookups : (find_node 3 g.nodes ≡ Some 2) × (find_node 4 g.nodes ≡ None) × (find_link (edge (pack 2 1) (pack 1 1)) g.links ≡ Some 0) × (find_link (edge (pack 2 0) (pack 1 0)) g.links ≡ None)
unfolding flip
lookups = (refl, refl, refl, refl)

views : (live_node 3 g.nodes ≡ false) × (live_linked g (edge (pack 1 0) (pack 3 0)) ≡ false) × (len_of g 2 ≡ 3) × (largest g.nodes ≡ 3) × (live_letters g.nodes ≡ 4)
unfolding flip
views = (refl, refl, refl, refl, refl)

reads : (spell g (pack 3 1) ≡ 97 ∷ 103 ∷ 116 ∷ []) × (letter_of g (pack 2 1) 0 ≡ 67)
unfolding complement_of
reads = (refl, refl)
