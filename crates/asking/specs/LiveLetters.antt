-- live_letters: 01 "What no idle program may pass", the letter total; its numbers are 13 and 5.
use Rattle.std.specs.Prelude.{ℕ, ◌≡◌, cond, List, eqb}
use Rattle.std.proofs.Common.{sym, ◌∙◌}
use Rattle.store.specs.declared.Counts.{Counts}
use Rattle.store.specs.Graph.{nodes_of}
use Rattle.store.specs.Views.{live_letters}
use Rattle.formed.specs.WellFormed.{graph_number}
use Rattle.asking.specs.declared.live_letters.LetterTotal.{LetterTotal}

abbrev pub answer : ℕ → ℕ → LetterTotal
answer number total = record { number = number; total = total }

-- 13 or 5 with no total, else the sum over live nodes
abbrev pub letter_total : List ℕ → List ℕ → List ℕ → Counts → LetterTotal
letter_total nodes letters links c =
    let number = graph_number nodes letters links c in
    cond (eqb number 0) (answer 0 (live_letters (nodes_of c.nodes nodes))) (answer number 0)

-- two outcomes that the statement allows are equal
pub one-outcome : (nodes letters links : List ℕ) (c : Counts) (x y : LetterTotal) → x ≡ letter_total nodes letters links c → y ≡ letter_total nodes letters links c → x ≡ y
one-outcome nodes letters links c x y e f = e ∙ sym f
