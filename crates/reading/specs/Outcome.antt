-- All that a caller of a reading sees: the answer, and the three lent arrays as it finds them.
use Rattle.std.specs.Prelude.{ℕ, ◌*◌, cond, List, ◌++◌, map, length, drop}
use Rattle.kit.specs.Layout.{encode}
use Rattle.store.specs.Graph.{Graph, node_layout, link_layout}
use Rattle.reading.specs.Reading.{Store, Progress, store, counts_of, goes_on, empty, read_text}
use Rattle.reading.specs.declared.Read.{Read}

pub record Outcome : Type 0 where
  pub answer : Read
  pub arrays : Store

abbrev pub outcome : Read → Store → Outcome
outcome answer l = record { answer = answer; arrays = l }

-- a refused reading leaves each array all zero and counts zero
abbrev pub zeros : List ℕ → List ℕ
zeros l = map (λ n. 0) l

abbrev pub refused : ℕ → Store → Outcome
refused number l =
    outcome (record { number = number; counts = counts_of empty }) (store (zeros l.nodes) (zeros l.letters) (zeros l.links))

-- a graph in them: from the front, then what stood after it
abbrev pub holding : Graph → Store → Store
holding g l =
    store (encode node_layout g.nodes ++ drop (4 * length g.nodes) l.nodes)
    (g.letters ++ drop (length g.letters) l.letters)
    (encode link_layout g.links ++ drop (3 * length g.links) l.links)

abbrev pub ending : Progress → Store → Outcome
ending r l =
    cond (goes_on r) (outcome (record { number = 0; counts = counts_of r.graph }) (holding r.graph l)) (refused r.number l)

unfoldable pub read_outcome : Store → List ℕ → Outcome
read_outcome l text = ending (read_text l text) l
