-- get_shared_prefix: 01 "Prefix, groups, collapse", first entry; its numbers are 13, 5, 8 and 7, in that order.
use Rattle.std.specs.Prelude.{ℕ, ◌≡◌, cond, not, List, ◌++◌, eqb, ltb, length, drop, Result, Ok, Err}
use Rattle.std.proofs.Common.{sym, ◌∙◌}
use Rattle.kit.specs.declared.Refusal.{Refusal}
use Rattle.kit.specs.Refusal.{number}
use Rattle.store.specs.declared.Counts.{Counts}
use Rattle.store.specs.Graph.{nodes_of, graph_of}
use Rattle.formed.specs.WellFormed.{graph_number}
use Rattle.affix.specs.Prefix.{handles_of, members_live, members_once, group_prefix}
use Rattle.asking.specs.declared.get_shared_prefix.SharedPrefix.{SharedPrefix}

-- the answer, and the lent room after the call
pub record Outcome : Type 0 where
  pub answer : SharedPrefix
  pub room : List ℕ

abbrev pub outcome : SharedPrefix → List ℕ → Outcome
outcome r out = record { answer = r; room = out }

abbrev pub answer : ℕ → ℕ → SharedPrefix
answer number n = record { number = number; length = n }

-- a refusal tells no length
abbrev pub answered : Result ℕ Refusal → SharedPrefix
answered (Ok n) = answer 0 n
answered (Err why) = answer (number why) 0

abbrev pub refused : ℕ → List ℕ → Outcome
refused number out = outcome (answer number 0) out

-- the letters stand at the front of the room
abbrev pub given : List ℕ → List ℕ → Outcome
given prefix out = outcome (answer 0 (length prefix)) (prefix ++ drop (length prefix) out)

-- 13 or 5; 8: no members, one absent or marked, one node twice; 7: the letters exceed the room
unfoldable pub shared_prefix_outcome : List ℕ → List ℕ → List ℕ → Counts → List ℕ → List ℕ → Outcome
shared_prefix_outcome nodes letters links c members out =
    let number = graph_number nodes letters links c in
    let ms = handles_of members in
    let prefix = group_prefix (graph_of nodes letters links c) ms in
    cond (not (eqb number 0)) (refused number out)
    (cond (eqb (length members) 0) (refused 8 out)
    (cond (not (members_live (nodes_of c.nodes nodes) ms)) (refused 8 out)
    (cond (not (members_once ms)) (refused 8 out)
    (cond (ltb (length out) (length prefix)) (refused 7 out)
    (given prefix out)))))

-- two outcomes that the statement allows are equal
pub one-outcome : (nodes letters links : List ℕ) (c : Counts) (members out : List ℕ) (o p : Outcome) → o ≡ shared_prefix_outcome nodes letters links c members out → p ≡ shared_prefix_outcome nodes letters links c members out → o ≡ p
one-outcome nodes letters links c members out o p e f = e ∙ sym f
