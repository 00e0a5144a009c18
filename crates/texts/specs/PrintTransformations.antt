-- print_transformations: 01 "Reading and writing", output, the table; its numbers are 13, 5 and 7, in that order.
use Rattle.std.specs.Prelude.{ℕ, ◌≡◌, cond, not, List, eqb}
use Rattle.std.proofs.Common.{sym, ◌∙◌}
use Rattle.store.specs.declared.Counts.{Counts}
use Rattle.store.specs.Graph.{graph_of}
use Rattle.events.specs.declared.Used.{Used}
use Rattle.events.specs.Events.{list_of}
use Rattle.rewriting.specs.Rewriting.{old_number}
use Rattle.writing.specs.TableText.{table_text}
use Rattle.writing.specs.Outcome.{Outcome, refused, writing}

-- 13 or 5, and no byte is changed; else the text, or 7
unfoldable pub table_outcome : List ℕ → List ℕ → List ℕ → Counts → List ℕ → List ℕ → Used → List ℕ → Outcome
table_outcome nodes letters links c rules steps u out =
    let number = old_number nodes letters links c rules steps u in
    cond (not (eqb number 0)) (refused number out)
    (writing (table_text (graph_of nodes letters links c) (list_of rules steps u)) out)

-- two outcomes that the statement allows are equal
pub one-outcome : (nodes letters links : List ℕ) (c : Counts) (rules steps : List ℕ) (u : Used) (out : List ℕ) (o p : Outcome) → o ≡ table_outcome nodes letters links c rules steps u out → p ≡ table_outcome nodes letters links c rules steps u out → o ≡ p
one-outcome nodes letters links c rules steps u out o p e f = e ∙ sym f
