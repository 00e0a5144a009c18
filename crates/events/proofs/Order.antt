-- 12, event by event: one turn of the loop that tests the order.
use Prim.Native.Nat.{ℕ, ◌+◌, ◌≤◌, ◌<◌}
use mathlib.Core.Path.{◌≡◌, sym, ap, ◌∙◌}
use mathlib.Core.Bool.{Bool, true, false, ◌&&◌}
use mathlib.Core.List.{List, [], ◌∷◌, ◌++◌}
use native.Mathlib.Numerals.{add-one}
use native.Mathlib.Omega.{arith}
use lib.ListN.{length, take, drop}
use lib.Seq.{length-take-le, take-add, drop_at}
use Rattle.kit.specs.Loops.{all}
use Rattle.kit.proofs.Bools.{and_true_l, and_true_r}
use Rattle.kit.proofs.Laws.{length-decode, decode-take, decode_snoc, left_none}
use Rattle.kit.proofs.Meaning.{all-at}
use Rattle.events.specs.declared.Used.{Used}
use Rattle.events.specs.Events.{rules_of, steps_of, rule_layout, step_layout, list_of, walk_of}
use Rattle.events.specs.declared.Rule.{Rule}
use Rattle.events.specs.declared.Step.{Step}
use Rattle.events.specs.WellFormed.{room_for_rules, good_rule, good_step, good_table, table_formed, steps_later, in_order_from}
use Rattle.events.proofs.Fields.{rule_at, rule_at_lem, left-rule, rule_is}
use Rattle.events.proofs.Says.{rule_says}

-- the steps of a rule lie inside those in use
pub table-inside : (rules steps : List ℕ) (c : Used) → table_formed rules steps c ≡ true → (i : ℕ) → i < c.rules → (rule_at rules i).first + (rule_at rules i).steps ≤ c.steps
table-inside rules steps c t i h =
    let rs = rules_of c.rules rules in
    let ss = steps_of c.steps steps in
    let good = and_true_l (all (good_rule (length ss)) rs) (all good_step ss) (and_true_r (room_for_rules rules steps c) (good_table (list_of rules steps c)) t) in
    let one : good_rule (length ss) (rule_at rules i) ≡ true = ap (good_rule (length ss)) (sym (rule_is c.rules i rules h (rule_at rules i))) ∙ all-at (good_rule (length ss)) rs good i (omega (arith, length-decode rule_layout c.rules rules)) (rule_at rules i) in
    omega (arith, (rule_says (length ss) (rule_at rules i) one).inside, length-decode step_layout c.steps steps)

-- and are those from its first to its last
pub walk_is : (total : ℕ) (steps : List ℕ) (r : Rule) → r.first + r.steps ≤ total → walk_of (steps_of total steps) r ≡ drop r.first (steps_of (r.first + r.steps) steps)
walk_is total steps r h =
    let ss = steps_of total steps in
    let n : length (take r.first ss) ≡ r.first = length-take-le r.first ss (omega (arith, length-decode step_layout total steps)) in
    sym (ap (drop r.first) (sym (decode-take step_layout (r.first + r.steps) total steps h) ∙ take-add r.first r.steps ss) ∙ drop_at (take r.first ss) (walk_of ss r) r.first n)

module _ (rules : List ℕ) (ss : List Step) (n i : ℕ) where
  -- what is left to test, the events before i met
  abbrev pub left : Bool
  left = in_order_from (rules_of i rules) ss (drop i (rules_of n rules))

  module _ (h : i < n) where
    abbrev here : Bool
    here = steps_later (rules_of (i + 1) rules) (walk_of ss (rule_at rules i))

    abbrev next : Bool
    next = in_order_from (rules_of (i + 1) rules) ss (drop (i + 1) (rules_of n rules))

    met : rules_of i rules ++ (rule_at rules i ∷ []) ≡ rules_of (i + 1) rules
    met = sym (ap (λ (k : ℕ). rules_of k rules) (add-one i) ∙ decode_snoc rule_layout i rules ∙ ap (λ (r : Rule). rules_of i rules ++ (r ∷ [])) (rule_at_lem rules i))

    one-event : left ≡ (here && next)
    one-event =
        ap (in_order_from (rules_of i rules) ss) (left-rule n i rules h)
        ∙ ap (λ (ms : List Rule). steps_later ms (walk_of ss (rule_at rules i)) && in_order_from ms ss (drop (i + 1) (rules_of n rules))) met

    pub order_pass : here ≡ true → left ≡ next
    order_pass t = one-event ∙ rw t

    pub order_fail : here ≡ false → left ≡ false
    order_fail t = one-event ∙ rw t

  pub order_end : n ≤ i → left ≡ true
  order_end h = ap (in_order_from (rules_of i rules) ss) (left_none rule_layout n i rules h)
