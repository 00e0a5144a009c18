-- The two arrays while events are appended: what they hold with what is left to append is the longer list.
use Prim.Native.Nat.{ℕ, ◌+◌, ◌≤◌}
use mathlib.Core.Path.{◌≡◌, refl, sym, ap, ap₂, subst, ◌∙◌}
use mathlib.Core.List.{List, [], ◌∷◌, ◌++◌}
use native.Mathlib.Omega.{arith}
use lib.ListN.{length, length-append}
use Rattle.kit.proofs.Laws.{length-decode}
use Rattle.events.specs.declared.Used.{Used}
use Rattle.events.specs.Events.{Rules, rule, rule_layout, step_layout, rules_of, steps_of, list_of, Event, append, append_all}
use Rattle.longer.specs.Longer.{front, Holds, RoomFor}
use Rattle.longer.proofs.Appending.{table, rule-count, step_count}
use Rattle.longer.proofs.Front.{decode-front, length_front, front-front, front_same}

abbrev in_use : ℕ → ℕ → Used
in_use rules steps = record { rules = rules; steps = steps }

-- one event more
module _ (rules steps : List ℕ) (u : Used) (e : Event) where
  pub rules-more : length (append (list_of rules steps u) e).rules ≡ u.rules + 1
  rules-more = omega (arith, length-append (rules_of u.rules rules) (rule e.id e.len (length (steps_of u.steps steps)) (length e.walk) ∷ []), length-decode rule_layout u.rules rules)

  pub steps-more : length (append (list_of rules steps u) e).steps ≡ u.steps + length e.walk
  steps-more = omega (arith, length-append (steps_of u.steps steps) e.walk, length-decode step_layout u.steps steps)

  pub held : (id more : ℕ) {rules' steps' : List ℕ} → id ≡ e.id → more ≡ length e.walk → rules' ≡ front rule_layout (rules_of u.rules rules ++ (rule id e.len u.steps more ∷ [])) rules → steps' ≡ front step_layout (steps_of u.steps steps ++ e.walk) steps → Holds (append (list_of rules steps u) e) rules steps rules' steps' (in_use (u.rules + 1) (u.steps + more))
  held id more i k r s =
      record {
        used = ap₂ in_use (sym rules-more) (ap (λ (n : ℕ). u.steps + n) k ∙ sym steps-more);
        rules_now = r ∙ rw (i, k, length-decode step_layout u.steps steps);
        steps_now = s;
      }

-- the list is what the arrays then say
pub holds_list : {t : Rules} {rules steps rules' steps' : List ℕ} {v : Used} → Holds t rules steps rules' steps' v → list_of rules' steps' v ≡ t
holds_list {t} {rules} {steps} {rules'} {steps'} {v} h =
    let n : length t.rules ≡ v.rules = ap (λ (x : Used). x.rules) (sym h.used) in
    let k : length t.steps ≡ v.steps = ap (λ (x : Used). x.steps) (sym h.used) in
    ap₂ table (ap (rules_of v.rules) h.rules_now ∙ decode-front rule_layout v.rules t.rules rules n)
    (ap (steps_of v.steps) h.steps_now ∙ decode-front step_layout v.steps t.steps steps k)

-- what is left to append, and that nothing past the longer list is touched
pub record Going (t : Rules) (rules₀ steps₀ rules steps : List ℕ) (u : Used) (left : List Event) : Type 0 where
  pub whole : append_all (list_of rules steps u) left ≡ t
  pub rules_rest : front rule_layout t.rules rules ≡ front rule_layout t.rules rules₀
  pub steps_rest : front step_layout t.steps steps ≡ front step_layout t.steps steps₀
  pub rules_size : length rules ≡ length rules₀
  pub steps_size : length steps ≡ length steps₀

pub going_start : (rules steps : List ℕ) (u : Used) (left : List Event) → Going (append_all (list_of rules steps u) left) rules steps rules steps u left
going_start rules steps u left = record { whole = refl; rules_rest = refl; steps_rest = refl; rules_size = refl; steps_size = refl }

pub going_as : {t : Rules} {rules₀ steps₀ rules steps : List ℕ} {u : Used} {es fs : List Event} → es ≡ fs → Going t rules₀ steps₀ rules steps u es → Going t rules₀ steps₀ rules steps u fs
going_as {t} {rules₀} {steps₀} {rules} {steps} {u} e g = subst (λ (es : List Event). Going t rules₀ steps₀ rules steps u es) e g

module _ {t : Rules} {rules₀ steps₀ : List ℕ} (room : RoomFor t rules₀ steps₀) {rules steps : List ℕ} {u : Used} where
  module _ {e : Event} {left : List Event} (g : Going t rules₀ steps₀ rules steps u (e ∷ left)) where
    abbrev next : Rules
    next = append (list_of rules steps u) e

    rules_fit : length next.rules ≤ length t.rules
    rules_fit = omega (arith, ap (λ (x : Rules). length x.rules) (sym g.whole), rule-count next left)

    steps_fit : length next.steps ≤ length t.steps
    steps_fit = omega (arith, ap (λ (x : Rules). length x.steps) (sym g.whole), step_count next left)

    pub going-room : RoomFor next rules steps
    going-room =
        record {
          rule_room = omega (arith, rules_fit, room.rule_room, g.rules_size);
          step_room = omega (arith, steps_fit, room.step_room, g.steps_size);
        }

    pub going-turn : {rules' steps' : List ℕ} {v : Used} → Holds next rules steps rules' steps' v → Going t rules₀ steps₀ rules' steps' v left
    going-turn {rules'} {steps'} {v} h =
        record {
          whole = ap (λ (x : Rules). append_all x left) (holds_list h) ∙ g.whole;
          rules_rest = ap (front rule_layout t.rules) h.rules_now ∙ front-front rule_layout next.rules t.rules rules rules_fit ∙ g.rules_rest;
          steps_rest = ap (front step_layout t.steps) h.steps_now ∙ front-front step_layout next.steps t.steps steps steps_fit ∙ g.steps_rest;
          rules_size = ap length h.rules_now ∙ length_front rule_layout next.rules rules going-room.rule_room ∙ g.rules_size;
          steps_size = ap length h.steps_now ∙ length_front step_layout next.steps steps going-room.step_room ∙ g.steps_size;
        }

  pub going_end : Going t rules₀ steps₀ rules steps u [] → Holds t rules₀ steps₀ rules steps u
  going_end g =
      let n : u.rules ≡ length t.rules = sym (length-decode rule_layout u.rules rules) ∙ ap (λ (x : Rules). length x.rules) g.whole in
      let k : u.steps ≡ length t.steps = sym (length-decode step_layout u.steps steps) ∙ ap (λ (x : Rules). length x.steps) g.whole in
      record {
        used = ap₂ in_use n k;
        rules_now = sym (front_same rule_layout u.rules rules (omega (arith, room.rule_room, g.rules_size))) ∙ ap (λ (x : Rules). front rule_layout x.rules rules) g.whole ∙ g.rules_rest;
        steps_now = sym (front_same step_layout u.steps steps (omega (arith, room.step_room, g.steps_size))) ∙ ap (λ (x : Rules). front step_layout x.steps steps) g.whole ∙ g.steps_rest;
      }
