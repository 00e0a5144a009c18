-- What the tests of a list say, as propositions, and back.
use Prim.Native.Nat.{ℕ, ◌+◌, ◌*◌, ◌≤◌}
use mathlib.Core.Path.{◌≡◌}
use mathlib.Core.Bool.{Bool, true, ◌&&◌}
use mathlib.Core.List.{List}
use borrow.Author.Tests.{leb-true, le-leb}
use lib.Dec.{leb}
use lib.ListN.{length}
use Rattle.kit.proofs.Bools.{and_true_l, and_true_r, and_both}
use Rattle.handle.specs.Handle.{max_id, is_id}
use Rattle.events.specs.declared.Used.{Used}
use Rattle.events.specs.Events.{list_of}
use Rattle.events.specs.declared.Rule.{Rule}
use Rattle.events.specs.WellFormed.{room_for_rules, good_rule, good_table, table_formed}

pub record RuleFacts (total : ℕ) (r : Rule) : Type 0 where
  pub low : 1 ≤ r.id
  pub high : r.id ≤ max_id
  pub inside : r.first + r.steps ≤ total

module _ (total : ℕ) (r : Rule) where
  pub rule_says : good_rule total r ≡ true → RuleFacts total r
  rule_says t =
      let i = and_true_l (is_id r.id) (leb (r.first + r.steps) total) t in
      record {
        low = leb-true 1 r.id (and_true_l (leb 1 r.id) (leb r.id max_id) i);
        high = leb-true r.id max_id (and_true_r (leb 1 r.id) (leb r.id max_id) i);
        inside = leb-true (r.first + r.steps) total (and_true_r (is_id r.id) (leb (r.first + r.steps) total) t);
      }

  pub says_rule : RuleFacts total r → good_rule total r ≡ true
  says_rule f =
      and_both _ _ (and_both _ _ (le-leb 1 r.id f.low) (le-leb r.id max_id f.high)) (le-leb (r.first + r.steps) total f.inside)

pub record RuleRoom (rules steps : List ℕ) (c : Used) : Type 0 where
  pub few_rules : c.rules ≤ 65536
  pub rule_room : 4 * c.rules ≤ length rules
  pub few_steps : c.steps ≤ 262144
  pub step_room : 2 * c.steps ≤ length steps

module _ (rules steps : List ℕ) (c : Used) where
  on_rules : Bool
  on_rules = leb c.rules 65536 && leb (4 * c.rules) (length rules)

  on-steps : Bool
  on-steps = leb c.steps 262144 && leb (2 * c.steps) (length steps)

  pub room_says : room_for_rules rules steps c ≡ true → RuleRoom rules steps c
  unfolding on_rules on-steps
  room_says t =
      let a = and_true_l on_rules on-steps t in
      let b = and_true_r on_rules on-steps t in
      record {
        few_rules = leb-true c.rules 65536 (and_true_l (leb c.rules 65536) _ a);
        rule_room = leb-true (4 * c.rules) (length rules) (and_true_r (leb c.rules 65536) _ a);
        few_steps = leb-true c.steps 262144 (and_true_l (leb c.steps 262144) _ b);
        step_room = leb-true (2 * c.steps) (length steps) (and_true_r (leb c.steps 262144) _ b);
      }

  pub says_room : RuleRoom rules steps c → room_for_rules rules steps c ≡ true
  says_room r =
      and_both _ _
      (and_both _ _ (le-leb c.rules 65536 r.few_rules) (le-leb (4 * c.rules) (length rules) r.rule_room))
      (and_both _ _ (le-leb c.steps 262144 r.few_steps) (le-leb (2 * c.steps) (length steps) r.step_room))

  pub table-room : table_formed rules steps c ≡ true → RuleRoom rules steps c
  table-room t = room_says (and_true_l (room_for_rules rules steps c) (good_table (list_of rules steps c)) t)
