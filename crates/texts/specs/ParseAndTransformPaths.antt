-- parse_and_transform_paths: 01 "Reading and writing", P and W lines; its numbers are 13 and 5 of the old graph and the table, then
-- those of the P and W lines as a reading gives them, 1 and 2 before 6, and 7.
use Rattle.std.specs.Prelude.{ℕ, ◌≡◌, cond, not, List, eqb}
use Rattle.std.proofs.Common.{sym, ◌∙◌}
use Rattle.store.specs.declared.Counts.{Counts}
use Rattle.store.specs.Graph.{nodes_of, graph_of}
use Rattle.events.specs.declared.Used.{Used}
use Rattle.events.specs.Events.{list_of}
use Rattle.rewriting.specs.Rewriting.{old_number}
use Rattle.writing.specs.Outcome.{Outcome, refused, writing}
use Rattle.paths.specs.PathText.{paths_text, paths_number}

-- 13 or 5; 1, 2 or 6; 7: the new lines exceed the room; else they stand at its front
unfoldable pub paths_outcome : List ℕ → List ℕ → List ℕ → List ℕ → Counts → List ℕ → List ℕ → Used → List ℕ → Outcome
paths_outcome text nodes letters links c rules steps u room =
    let number = old_number nodes letters links c rules steps u in
    let wrong = paths_number (nodes_of c.nodes nodes) text in
    cond (not (eqb number 0)) (refused number room)
    (cond (not (eqb wrong 0)) (refused wrong room)
    (writing (paths_text (graph_of nodes letters links c) (list_of rules steps u) text) room))

-- two outcomes that the statement allows are equal
pub one-outcome : (text nodes letters links : List ℕ) (c : Counts) (rules steps : List ℕ) (u : Used) (room : List ℕ) (o p : Outcome) → o ≡ paths_outcome text nodes letters links c rules steps u room → p ≡ paths_outcome text nodes letters links c rules steps u room → o ≡ p
one-outcome text nodes letters links c rules steps u room o p e f = e ∙ sym f
