-- print_active_subgraph: 01 "Reading and writing", output; its numbers are 13, 5 and 7, in that order.
use Rattle.std.specs.Prelude.{ℕ, ◌≡◌, cond, not, List, eqb}
use Rattle.std.proofs.Common.{sym, ◌∙◌}
use Rattle.store.specs.declared.Counts.{Counts}
use Rattle.store.specs.Graph.{graph_of}
use Rattle.formed.specs.WellFormed.{graph_number}
use Rattle.writing.specs.GraphText.{graph_text}
use Rattle.writing.specs.Outcome.{Outcome, refused, writing}

-- 13 or 5, else the text of the live part, or 7
unfoldable pub subgraph_outcome : List ℕ → List ℕ → List ℕ → Counts → List ℕ → Outcome
subgraph_outcome nodes letters links c room =
    let number = graph_number nodes letters links c in
    cond (not (eqb number 0)) (refused number room) (writing (graph_text (graph_of nodes letters links c)) room)

-- two outcomes that the statement allows are equal
pub one-outcome : (nodes letters links : List ℕ) (c : Counts) (room : List ℕ) (x y : Outcome) → x ≡ subgraph_outcome nodes letters links c room → y ≡ subgraph_outcome nodes letters links c room → x ≡ y
one-outcome nodes letters links c room x y e f = e ∙ sym f
