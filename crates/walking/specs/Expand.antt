-- expand: 01 "Prefix, groups, collapse", last paragraph; its numbers are 13, 5, 12 and 7, in that order.
use Rattle.std.specs.Prelude.{ℕ, ◌*◌, ◌≡◌, Bool, cond, not, ◌&&◌, List, ◌++◌, leb, length, drop, Result, Ok, Err}
use Rattle.std.proofs.Common.{sym, ◌∙◌}
use Rattle.kit.specs.Layout.{encode}
use Rattle.kit.specs.declared.Refusal.{Refusal}
use Rattle.kit.specs.Refusal.{number}
use Rattle.events.specs.declared.Used.{Used}
use Rattle.events.specs.Events.{Rules, rule_layout, step_layout, list_of}
use Rattle.events.specs.WellFormed.{events_formed, keys_once, in_order}
use Rattle.expansion.specs.Expansion.{expanded}
use Rattle.walking.specs.declared.expand.Expanded.{Expanded}

-- the answer, and the lent table after the call
pub record Outcome : Type 0 where
  pub answer : Expanded
  pub rules : List ℕ
  pub steps : List ℕ

abbrev pub outcome : Expanded → List ℕ → List ℕ → Outcome
outcome r rules steps = record { answer = r; rules = rules; steps = steps }

abbrev pub answer : ℕ → ℕ → ℕ → Expanded
answer number rules steps = record { number = number; used = record { rules = rules; steps = steps } }

-- a refusal tells no counts
abbrev pub answered : Result Used Refusal → Expanded
answered (Ok used) = answer 0 used.rules used.steps
answered (Err why) = answer (number why) 0 0

-- a refusal changes no lent number
abbrev pub refused : ℕ → List ℕ → List ℕ → Outcome
refused number rules steps = outcome (answer number 0 0) rules steps

-- inside the lent room and the limits
abbrev pub table_fits : Rules → List ℕ → List ℕ → Bool
table_fits t rules steps =
    (leb (length t.rules) 65536 && leb (4 * length t.rules) (length rules))
    && (leb (length t.steps) 262144 && leb (2 * length t.steps) (length steps))

-- the table from the front of both arrays
abbrev pub given : Rules → List ℕ → List ℕ → Outcome
given t rules steps =
    outcome (answer 0 (length t.rules) (length t.steps))
    (encode rule_layout t.rules ++ drop (4 * length t.rules) rules)
    (encode step_layout t.steps ++ drop (2 * length t.steps) steps)

-- 13; 5: a key twice; 12: a step's own rule does not come later; 7: the table exceeds room or limit
unfoldable pub expand_outcome : List ℕ → List ℕ → Used → List ℕ → List ℕ → Outcome
expand_outcome rules steps u outRules outSteps =
    let t = list_of rules steps u in
    cond (not (events_formed rules steps u)) (refused 13 outRules outSteps)
    (cond (not (keys_once t.rules)) (refused 5 outRules outSteps)
    (cond (not (in_order t)) (refused 12 outRules outSteps)
    (cond (not (table_fits (expanded t) outRules outSteps)) (refused 7 outRules outSteps)
    (given (expanded t) outRules outSteps))))

-- two outcomes that the statement allows are equal
pub one-outcome : (rules steps : List ℕ) (u : Used) (outRules outSteps : List ℕ) (o p : Outcome) → o ≡ expand_outcome rules steps u outRules outSteps → p ≡ expand_outcome rules steps u outRules outSteps → o ≡ p
one-outcome rules steps u outRules outSteps o p e f = e ∙ sym f
