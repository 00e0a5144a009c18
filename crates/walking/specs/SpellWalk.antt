-- spell_walk: 01 "Prefix, groups, collapse", last sentence; its numbers are 13, 5, 6, 23 and 7, in that order.
use Rattle.std.specs.Prelude.{ℕ, ◌≡◌, cond, not, List, ◌++◌, eqb, ltb, length, drop, Option, Some, None}
use Rattle.std.proofs.Common.{sym, ◌∙◌}
use Rattle.store.specs.declared.Counts.{Counts}
use Rattle.store.specs.Graph.{nodes_of, links_of, graph_of}
use Rattle.formed.specs.WellFormed.{graph_number}
use Rattle.affix.specs.Prefix.{handles_of}
use Rattle.spelling.specs.Spelling.{all_stored, first_gap, spell_walk}
use Rattle.walking.specs.declared.spell_walk.Spelling.{Spelling}

-- the answer, and the lent room after the call
pub record Outcome : Type 0 where
  pub answer : Spelling
  pub room : List ℕ

abbrev pub outcome : Spelling → List ℕ → Outcome
outcome r out = record { answer = r; room = out }

abbrev pub answer : ℕ → ℕ → ℕ → Spelling
answer number place n = record { number = number; place = place; length = n }

-- a refusal changes no lent byte; its place is 0 but for 23
abbrev pub refused : ℕ → ℕ → List ℕ → Outcome
refused number place out = outcome (answer number place 0) out

-- the letters stand at the front of the room; 7: they exceed it
abbrev pub given : List ℕ → List ℕ → Outcome
given letters out =
    cond (ltb (length out) (length letters)) (refused 7 0 out)
    (outcome (answer 0 0 (length letters)) (letters ++ drop (length letters) out))

-- 23 at a gap, else the letters
abbrev pub or_gap : Option ℕ → List ℕ → List ℕ → Outcome
or_gap None letters out = given letters out
or_gap (Some i) letters out = refused 23 i out

-- 13 or 5; 6 for any step; 23 with the place of the first gap; 7
unfoldable pub spell_outcome : List ℕ → List ℕ → List ℕ → Counts → List ℕ → List ℕ → Outcome
spell_outcome nodes letters links c walk out =
    let number = graph_number nodes letters links c in
    let hs = handles_of walk in
    cond (not (eqb number 0)) (refused number 0 out)
    (cond (not (all_stored (nodes_of c.nodes nodes) hs)) (refused 6 0 out)
    (or_gap (first_gap (links_of c.links links) hs) (spell_walk (graph_of nodes letters links c) hs) out))

-- two outcomes that the statement allows are equal
pub one-outcome : (nodes letters links : List ℕ) (c : Counts) (walk out : List ℕ) (o p : Outcome) → o ≡ spell_outcome nodes letters links c walk out → p ≡ spell_outcome nodes letters links c walk out → o ≡ p
one-outcome nodes letters links c walk out o p e f = e ∙ sym f
