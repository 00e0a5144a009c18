-- An event list with events appended: its rules, its steps and how many there are.
use Prim.Native.Nat.{◌+◌}
use mathlib.Core.Path.{◌≡◌, refl, ap, ◌∙◌}
use mathlib.Core.List.{List, [], ◌∷◌, ◌++◌, append_assoc, append-nil}
use native.Mathlib.Omega.{arith}
use lib.ListN.{length, length-append}
use Rattle.kit.specs.Loops.{sum}
use Rattle.events.specs.Events.{Rules, rule, Event, append, append_all, walks_of, rules_from}
use Rattle.events.specs.declared.Rule.{Rule}
use Rattle.events.specs.declared.Step.{Step}
use Rattle.events.proofs.Walks.{length-rules}

abbrev pub table : List Rule → List Step → Rules
table rules steps = record { rules = rules; steps = steps }

pub append_all_lem : (t : Rules) (es : List Event) → append_all t es ≡ table (t.rules ++ rules_from (length t.steps) es) (t.steps ++ walks_of es)
append_all_lem t [] = rw (append-nil t.rules, append-nil t.steps)
append_all_lem t (e ∷ es) =
    append_all_lem (append t e) es
    ∙ rw (length-append t.steps e.walk, append_assoc t.rules (rule e.id e.len (length t.steps) (length e.walk) ∷ []) (rules_from (length t.steps + length e.walk) es), append_assoc t.steps e.walk (walks_of es))

module _ (t : Rules) (es : List Event) where
  pub rules-longer : (append_all t es).rules ≡ t.rules ++ rules_from (length t.steps) es
  rules-longer = ap (λ (u : Rules). u.rules) (append_all_lem t es)

  pub steps-longer : (append_all t es).steps ≡ t.steps ++ walks_of es
  steps-longer = ap (λ (u : Rules). u.steps) (append_all_lem t es)

pub length-walks : (es : List Event) → length (walks_of es) ≡ sum (λ e. length e.walk) es
length-walks [] = refl
length-walks (e ∷ es) = omega (arith, length-append e.walk (walks_of es), length-walks es)

module _ (t : Rules) (es : List Event) where
  pub rule-count : length (append_all t es).rules ≡ length t.rules + length es
  rule-count =
      omega (arith, ap length (rules-longer t es), length-append t.rules (rules_from (length t.steps) es), length-rules (length t.steps) es)

  pub step_count : length (append_all t es).steps ≡ length t.steps + sum (λ e. length e.walk) es
  step_count = omega (arith, ap length (steps-longer t es), length-append t.steps (walks_of es), length-walks es)
