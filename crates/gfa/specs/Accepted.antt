-- Which texts are read, and how the arrays hold what was read.
use Rattle.std.specs.Prelude.{ℕ, ◌≡◌, true, List, eqb}
use Rattle.kit.specs.Loops.{all}
use Rattle.store.specs.declared.Counts.{Counts}
use Rattle.store.specs.Graph.{Graph, graph_of}
use Rattle.formed.specs.WellFormed.{old_formed, graph_number}
use Rattle.text.specs.Pieces.{lines_of}
use Rattle.text.specs.Fields.{line_number}
use Rattle.reading.specs.Reading.{Store, fits_in}
use Rattle.gfa.specs.Narrowings.{graph_said, names_once, names_declared}

-- a text that is read into the room of l
pub record Accepted (l : Store) (text : List ℕ) : Type 0 where
  pub numbers : all (λ line. eqb (line_number line) 0) (lines_of text) ≡ true
  pub names_once : names_once text ≡ true
  pub names_declared : names_declared text ≡ true
  pub room : fits_in l (graph_said text) ≡ true

-- arrays that hold a graph, well formed and unmarked, with no id twice
pub record HeldIn (a : Store) (c : Counts) (g : Graph) : Type 0 where
  pub same : graph_of a.nodes a.letters a.links c ≡ g
  pub formed : old_formed a.nodes a.letters a.links c ≡ true
  pub number : graph_number a.nodes a.letters a.links c ≡ 0
