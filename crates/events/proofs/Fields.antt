-- The fields of the i-th rule and step, as the code reads them.
use Prim.Native.Nat.{ℕ, ◌+◌, ◌*◌, ◌<◌}
use mathlib.Core.Path.{◌≡◌, ap, ◌∙◌}
use mathlib.Core.List.{List, ◌∷◌}
use native.Mathlib.Nat.{add-zero}
use lib.ListN.{drop, get_or}
use lib.Seq.{get_or-drop}
use Rattle.kit.proofs.Laws.{left_cons, decode-at}
pub use Rattle.events.specs.Events.{rule_at, step_at}
use Rattle.events.specs.Events.{rule_layout, step_layout, rules_of, steps_of, unpack_rule, unpack_step}
use Rattle.events.specs.declared.Rule.{Rule}
use Rattle.events.specs.declared.Step.{Step}

pub rule_at_lem : (l : List ℕ) (i : ℕ) → unpack_rule (drop (4 * i) l) ≡ rule_at l i
rule_at_lem l i = simp (get_or-drop, add-zero)

pub step_at_lem : (l : List ℕ) (i : ℕ) → unpack_step (drop (2 * i) l) ≡ step_at l i
step_at_lem l i = simp (get_or-drop, add-zero)

module _ (n i : ℕ) (l : List ℕ) (h : i < n) where
  -- what is left from i on, in a turn of a loop
  pub left-rule : drop i (rules_of n l) ≡ rule_at l i ∷ drop (i + 1) (rules_of n l)
  left-rule = left_cons rule_layout n i l h ∙ ap (λ (r : Rule). r ∷ drop (i + 1) (rules_of n l)) (rule_at_lem l i)

  pub left_step : drop i (steps_of n l) ≡ step_at l i ∷ drop (i + 1) (steps_of n l)
  left_step = left_cons step_layout n i l h ∙ ap (λ (r : Step). r ∷ drop (i + 1) (steps_of n l)) (step_at_lem l i)

  pub rule_is : (d : Rule) → get_or (rules_of n l) i d ≡ rule_at l i
  rule_is d = decode-at rule_layout n i l d h ∙ rule_at_lem l i
