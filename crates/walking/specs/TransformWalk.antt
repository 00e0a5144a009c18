-- transform_walk: 01 "Prefix, groups, collapse", last paragraph; its numbers are 13, 5, 6 and 7, in that order.
use Rattle.std.specs.Prelude.{ℕ, ◌≡◌, cond, not, List, eqb, ltb, length, Result, Ok, Err}
use Rattle.std.proofs.Common.{sym, ◌∙◌}
use Rattle.kit.specs.declared.Refusal.{Refusal}
use Rattle.kit.specs.Refusal.{number}
use Rattle.store.specs.declared.Counts.{Counts}
use Rattle.store.specs.Graph.{nodes_of, graph_of}
use Rattle.affix.specs.Prefix.{handles_of}
use Rattle.groups.specs.Groups.{numbers, over}
use Rattle.events.specs.declared.Used.{Used}
use Rattle.events.specs.Events.{list_of}
use Rattle.spelling.specs.Spelling.{all_stored}
use Rattle.rewriting.specs.Rewriting.{old_number, transform_walk}
use Rattle.walking.specs.declared.transform_walk.Rewritten.{Rewritten}

-- the answer, and the lent room after the call
pub record Outcome : Type 0 where
  pub answer : Rewritten
  pub room : List ℕ

abbrev pub outcome : Rewritten → List ℕ → Outcome
outcome r out = record { answer = r; room = out }

abbrev pub answer : ℕ → ℕ → Rewritten
answer number n = record { number = number; length = n }

-- a refusal tells no length
abbrev pub answered : Result ℕ Refusal → Rewritten
answered (Ok n) = answer 0 n
answered (Err why) = answer (number why) 0

-- a refusal changes no lent number
abbrev pub refused : ℕ → List ℕ → Outcome
refused number out = outcome (answer number 0) out

-- 13 or 5; 6: a step names no old node; 7: the new walk exceeds the room; else it stands at the front of the room
unfoldable pub transform_outcome : List ℕ → List ℕ → List ℕ → Counts → List ℕ → List ℕ → Used → List ℕ → List ℕ → Outcome
transform_outcome nodes letters links c rules steps u walk out =
    let number = old_number nodes letters links c rules steps u in
    let hs = handles_of walk in
    let new = transform_walk (graph_of nodes letters links c) (list_of rules steps u) hs in
    cond (not (eqb number 0)) (refused number out)
    (cond (not (all_stored (nodes_of c.nodes nodes) hs)) (refused 6 out)
    (cond (ltb (length out) (length new)) (refused 7 out)
    (outcome (answer 0 (length new)) (over (numbers new) out))))

-- two outcomes that the statement allows are equal
pub one-outcome : (nodes letters links : List ℕ) (c : Counts) (rules steps : List ℕ) (u : Used) (walk out : List ℕ) (o p : Outcome) → o ≡ transform_outcome nodes letters links c rules steps u walk out → p ≡ transform_outcome nodes letters links c rules steps u walk out → o ≡ p
one-outcome nodes letters links c rules steps u walk out o p e f = e ∙ sym f
