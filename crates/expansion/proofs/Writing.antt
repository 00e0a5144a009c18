-- Writing the table's rules, one after another.
use Prim.Native.Nat.{ℕ, ◌+◌, ◌*◌, ◌≤◌, ◌<◌}
use mathlib.Core.Path.{◌≡◌, refl, sym, ap, ap₂, ◌∙◌}
use mathlib.Core.List.{List, ◌∷◌}
use native.Mathlib.Nat.{zero-add}
use native.Mathlib.Omega.{arith}
use lib.ListN.{length, take, drop, get_or}
use lib.Seq.{sets, length-sets}
use Rattle.kit.specs.Layout.{encode}
use Rattle.kit.specs.Loops.{sum}
use Rattle.kit.proofs.Laws.{left_none}
use Rattle.kit.proofs.Steps.{part_cons}
use Rattle.kit.proofs.Writes.{sets-append}
use Rattle.events.specs.Events.{rule, pack_rule, rule_layout, rules_of}
use Rattle.events.specs.declared.Rule.{Rule}
use Rattle.events.proofs.Fields.{left-rule}
use Rattle.expansion.specs.Table.{rules_by}

abbrev total : List ℕ → ℕ
total ls = sum (λ (n : ℕ). n) ls

module _ (n : ℕ) (rules lens out : List ℕ) where
  -- before rule i is written, whose walk starts at `first`
  pub record Writing (now : List ℕ) (first i : ℕ) : Type 0 where
    pub size : length now ≡ length out
    pub place : first + total (drop i (take n lens)) ≡ total (take n lens)
    pub numbers : sets now (4 * i) (encode rule_layout (rules_by first (drop i (rules_of n rules)) (drop i (take n lens)))) ≡ sets out 0 (encode rule_layout (rules_by 0 (rules_of n rules) (take n lens)))

  pub writing : Writing out 0 0
  writing = record { size = refl; place = omega arith; numbers = refl }

  module _ (now : List ℕ) (first i : ℕ) (h : i < n) (room : n ≤ length lens) (w : Writing now first i) where
    next-size : drop i (take n lens) ≡ get_or lens i 0 ∷ drop (i + 1) (take n lens)
    next-size = part_cons lens 0 n i (omega arith) h ∙ ap (λ (k : ℕ). get_or lens k 0 ∷ drop (i + 1) (take n lens)) (zero-add i)

    pub first_next : first + get_or lens i 0 + total (drop (i + 1) (take n lens)) ≡ total (take n lens)
    first_next = omega (arith, w.place, ap total next-size)

    pub rule_leaves : (exit : List ℕ) → exit ≡ sets now (4 * i) (pack_rule (rule (get_or rules (4 * i) 0) (get_or rules (4 * i + 1) 0) first (get_or lens i 0))) → Writing exit (first + get_or lens i 0) (i + 1)
    rule_leaves exit e =
        let r = rule (get_or rules (4 * i) 0) (get_or rules (4 * i + 1) 0) first (get_or lens i 0) in
        let rest = encode rule_layout (rules_by (first + get_or lens i 0) (drop (i + 1) (rules_of n rules)) (drop (i + 1) (take n lens))) in
        let k : 4 * (i + 1) ≡ 4 * i + 4 = omega arith in
        record {
          size = ap length e ∙ length-sets now (4 * i) (pack_rule r) ∙ w.size;
          place = first_next;
          numbers =
              ap₂ (λ (l : List ℕ) (x : ℕ). sets l x rest) e k
              ∙ sym (sets-append now (4 * i) (pack_rule r) rest)
              ∙ ap₂ (λ (rs : List Rule) (ls : List ℕ). sets now (4 * i) (encode rule_layout (rules_by first rs ls))) (sym (left-rule n i rules h)) (sym next-size)
              ∙ w.numbers;
        }

  pub written : (now : List ℕ) (first i : ℕ) → n ≤ i → Writing now first i → now ≡ sets out 0 (encode rule_layout (rules_by 0 (rules_of n rules) (take n lens)))
  written now first i h w =
      ap (λ (rs : List Rule). sets now (4 * i) (encode rule_layout (rules_by first rs (drop i (take n lens))))) (sym (left_none rule_layout n i rules h)) ∙ w.numbers
