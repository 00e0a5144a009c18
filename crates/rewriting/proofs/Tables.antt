-- What a rule that is looked up in a well-formed table is, and where its steps stand.
use Prim.Native.Nat.{ℕ, ◌+◌, ◌*◌, ◌≤◌, ◌<◌}
use mathlib.Core.Path.{◌≡◌, sym, ap, ap₂, ◌∙◌}
use mathlib.Core.Bool.{Bool, true, false, cond}
use mathlib.Core.List.{List, [], ◌∷◌}
use native.Mathlib.Nat.{add-zero, sub-zero}
use native.Mathlib.Omega.{arith}
use lib.ListN.{length, take, drop, get_or, length-map, length-drop, get_or-map}
use lib.Seq.{length-take-le, get_or-take, get_or-drop}
use Rattle.kit.specs.Loops.{all}
use Rattle.std.specs.Prelude.{Option, Some, None}
use Rattle.kit.proofs.Bools.{and_true_l, and_true_r}
use Rattle.kit.proofs.Laws.{length-decode, decode-at}
use Rattle.kit.proofs.Steps.{found_at}
use Rattle.kit.proofs.Meaning.{first_found, found-any, nothing_any}
use Rattle.handle.specs.declared.Handle.{Handle}
use Rattle.handle.specs.Handle.{id_of}
use Rattle.store.specs.Graph.{handle}
use Rattle.store.specs.declared.Node.{Node}
use Rattle.store.specs.Views.{node_named}
use Rattle.events.specs.declared.Used.{Used}
use Rattle.events.specs.Events.{rule, step, rule_layout, step_layout, rules_of, steps_of, list_of, keyed, find_rule}
use Rattle.events.specs.declared.Rule.{Rule}
use Rattle.events.specs.declared.Step.{Step}
use Rattle.events.specs.WellFormed.{room_for_rules, good_rule, good_step, good_table, table_formed}
use Rattle.events.proofs.Fields.{rule_at, rule_is}
use Rattle.events.proofs.Says.{rule_says}
use Rattle.spelling.specs.Measure.{step_len}
use Rattle.rewriting.specs.Rewriting.{ruled, rule_under, nodes_on}

-- slot i holds the rule under this key
pub record RuleFound (n : ℕ) (l : List ℕ) (id len i : ℕ) : Type 0 where
  pub within : i < n
  pub here : rule_under id len (rules_of n l) ≡ rule_at l i
  pub is_ruled : ruled id len (rules_of n l) ≡ true

pub rule_found : (n : ℕ) (l : List ℕ) (id len i : ℕ) → find_rule id len (rules_of n l) ≡ Some i → RuleFound n l id len i
rule_found n l id len i e =
    let h : i < n = omega (arith, (found_at (keyed id len) 0 i (rules_of n l) e).high, length-decode rule_layout n l) in
    record {
      within = h;
      here = first_found (keyed id len) (rule 0 0 0 0) 0 i (rules_of n l) e (rule_at l i) ∙ ap (λ (k : ℕ). get_or (rules_of n l) k (rule_at l i)) (sub-zero i) ∙ rule_is n i l h (rule_at l i);
      is_ruled = found-any (keyed id len) 0 i (rules_of n l) e;
    }

pub rule_nowhere : (id len : ℕ) (rs : List Rule) → find_rule id len rs ≡ None → ruled id len rs ≡ false
rule_nowhere id len rs e = nothing_any (keyed id len) 0 rs e

-- the rule under a step's id and length, as the code looks it up
pub looked_up : (nodes : List Node) (rules : List Rule) (h : Handle) (id len : ℕ) {x : Option ℕ} → id ≡ id_of h → len ≡ (node_named id nodes).len → x ≡ find_rule id len rules → find_rule (id_of h) (step_len nodes h) rules ≡ x
looked_up nodes rules h id len e f q =
    sym (q ∙ ap₂ (λ (i l : ℕ). find_rule i l rules) e (f ∙ ap (λ (i : ℕ). (node_named i nodes).len) e))

-- the steps of a rule that is looked up are in use, also where there is none
under_inside : (total id len : ℕ) (rs : List Rule) → all (good_rule total) rs ≡ true → (rule_under id len rs).first + (rule_under id len rs).steps ≤ total
under_inside total id len [] t = omega arith
under_inside total id len (r ∷ rs) t = by (keyed id len r) (under_inside total id len rs (and_true_r (good_rule total r) (all (good_rule total) rs) t))
  where
    by : (b : Bool) → (rule_under id len rs).first + (rule_under id len rs).steps ≤ total → (cond b r (rule_under id len rs)).first + (cond b r (rule_under id len rs)).steps ≤ total
    by true h = (rule_says total r (and_true_l (good_rule total r) (all (good_rule total) rs) t)).inside
    by false h = h

pub steps-inside : (rules steps : List ℕ) (u : Used) → table_formed rules steps u ≡ true → (id len : ℕ) → (rule_under id len (rules_of u.rules rules)).first + (rule_under id len (rules_of u.rules rules)).steps ≤ u.steps
steps-inside rules steps u ok id len =
    let t = list_of rules steps u in
    let good = and_true_r (room_for_rules rules steps u) (good_table t) ok in
    omega (arith, under_inside (length t.steps) id len t.rules (and_true_l (all (good_rule (length t.steps)) t.rules) (all good_step t.steps) good), length-decode step_layout u.steps steps)

-- the walk of a rule, and its step at place j
module _ (total : ℕ) (l : List ℕ) (first count : ℕ) (h : first + count ≤ total) where
  pub length-on : length (nodes_on (steps_of total l) (rule 0 0 first count)) ≡ count
  length-on =
      length-map (take count (drop first (steps_of total l))) (λ s. s.node)
      ∙ length-take-le count (drop first (steps_of total l)) (omega (arith, length-drop first (steps_of total l), length-decode step_layout total l))

  pub on-at : (j : ℕ) → j < count → get_or (nodes_on (steps_of total l) (rule 0 0 first count)) j (handle 0) ≡ handle (get_or l (2 * (first + j)) 0)
  on-at j k =
      let ss = steps_of total l in
      get_or-map (λ (s : Step). s.node) (take count (drop first ss)) j (step 0 0)
      ∙ ap (λ (s : Step). s.node) (get_or-take count (drop first ss) j (step 0 0) k ∙ get_or-drop first ss j (step 0 0) ∙ decode-at step_layout total (first + j) l (step 0 0) (omega arith))
      ∙ ap handle (get_or-drop (2 * (first + j)) l 0 0 ∙ ap (λ (n : ℕ). get_or l n 0) (add-zero (2 * (first + j))))
