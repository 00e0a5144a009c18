-- The table when its lengths are measured and have room: what its two writers ask, and what they leave.
use Prim.Native.Nat.{ℕ, ◌*◌, ◌≤◌}
use mathlib.Core.Path.{◌≡◌, sym, ap, ◌∙◌}
use mathlib.Core.List.{List, ◌++◌}
use native.Mathlib.Omega.{arith}
use lib.ListN.{length, take, drop, length-take, length-map}
use lib.Seq.{sets}
use Rattle.kit.specs.Layout.{encode}
use Rattle.kit.specs.Loops.{sum}
use Rattle.kit.proofs.Bools.{same_test}
use Rattle.kit.proofs.Laws.{length-decode, length-encode, then-decode, then-length}
use Rattle.kit.proofs.Writes.{sets-front}
use Rattle.events.specs.declared.Used.{Used}
use Rattle.events.specs.Events.{Rules, rule_layout, step_layout, rules_of, steps_of, list_of, walks_of, rules_from}
use Rattle.events.specs.declared.Rule.{Rule}
use Rattle.events.specs.WellFormed.{room_for_rules}
use Rattle.events.proofs.Says.{table-room, room_says, says_room}
use Rattle.expansion.specs.Building.{Measured, Fillable, Buildable, TableIn}
use Rattle.expansion.specs.Expansion.{expanded}
use Rattle.expansion.specs.Table.{rules_by, events_in}
use Rattle.expansion.proofs.Tables.{table_is, length_events, lengths_of, sizes_exact, sum_lengths, rules_by_lem}
use Rattle.events.proofs.Walks.{length-rules}

module _ (rules steps : List ℕ) (c : Used) where
  events_count : length (events_in rules steps c) ≡ c.rules
  events_count = length_events (steps_of c.steps steps) (rules_of c.rules rules) ∙ length-decode rule_layout c.rules rules

  rules-count : length (rules_from 0 (events_in rules steps c)) ≡ c.rules
  rules-count = length-rules 0 (events_in rules steps c) ∙ events_count

  table-rules : length (expanded (list_of rules steps c)).rules ≡ c.rules
  table-rules = ap (λ (t : Rules). length t.rules) (table_is (list_of rules steps c)) ∙ rules-count

  table-steps : length (expanded (list_of rules steps c)).steps ≡ length (walks_of (events_in rules steps c))
  table-steps = ap (λ (t : Rules). length t.steps) (table_is (list_of rules steps c))

  -- the counts of the table
  abbrev pub used_by : Used
  used_by = record { rules = length (expanded (list_of rules steps c)).rules; steps = length (expanded (list_of rules steps c)).steps }

  -- a length that was counted only up to the cap fits exactly when the length does
  pub room-same : (lens table out : List ℕ) (d : Used) → d.rules ≡ c.rules → Measured rules steps c lens d.steps → room_for_rules table out d ≡ room_for_rules table out used_by
  room-same lens table out d e m =
      same_test (room_for_rules table out d) (room_for_rules table out used_by)
      (λ t.
      let r = room_says table out d t in
      says_room table out used_by
      record {
        few_rules = omega (arith, r.few_rules, table-rules);
        rule_room = omega (arith, r.rule_room, table-rules);
        few_steps = omega (arith, r.few_steps, m.all, table-steps);
        step_room = omega (arith, r.few_steps, r.step_room, m.all, table-steps);
      })
      (λ t.
      let r = room_says table out used_by t in
      says_room table out d
      record {
        few_rules = omega (arith, r.few_rules, table-rules);
        rule_room = omega (arith, r.rule_room, table-rules);
        few_steps = omega (arith, r.few_steps, m.all, table-steps);
        step_room = omega (arith, r.few_steps, r.step_room, m.all, table-steps);
      })

module _ (rules steps : List ℕ) (c : Used) (lens table out : List ℕ) (d : Used) (b : Buildable rules steps c lens table out d) where
  small : length (walks_of (events_in rules steps c)) ≤ 262144
  small = let room = room_says table out d b.room in omega (arith, room.few_steps, b.measured.all)

  exact : d.steps ≡ length (walks_of (events_in rules steps c))
  exact = omega (arith, small, b.measured.all)

  lengths : take c.rules lens ≡ lengths_of (events_in rules steps c)
  lengths = b.measured.sizes ∙ sizes_exact (events_in rules steps c) small

  pub rules_ask : (4 * c.rules ≤ length rules) × (c.rules ≤ length lens) × (4 * c.rules ≤ length table) × (sum (λ (n : ℕ). n) (take c.rules lens) ≤ 262144)
  rules_ask =
      let room = room_says table out d b.room in
      let n : length (take c.rules lens) ≡ c.rules = ap length lengths ∙ length-map (events_in rules steps c) (λ e. length e.walk) ∙ events_count rules steps c in (
        (table-room rules steps c b.formed).rule_room,
        omega (arith, length-take c.rules lens),
        omega (arith, room.rule_room, b.count),
        omega (arith, ap (sum (λ (x : ℕ). x)) lengths, sum_lengths (events_in rules steps c), small),
      )

  module _ (now : List ℕ) (w : now ≡ sets table 0 (encode rule_layout (rules_by 0 (rules_of c.rules rules) (take c.rules lens)))) where
    rules_stand : now ≡ encode rule_layout (rules_from 0 (events_in rules steps c)) ++ drop (4 * c.rules) table
    rules_stand =
        let vs = encode rule_layout (rules_from 0 (events_in rules steps c)) in
        let n : length vs ≡ 4 * c.rules = length-encode rule_layout (rules_from 0 (events_in rules steps c)) ∙ ap (λ (x : ℕ). 4 * x) (rules-count rules steps c) in
        w
        ∙ ap (λ (ls : List ℕ). sets table 0 (encode rule_layout (rules_by 0 (rules_of c.rules rules) ls))) lengths
        ∙ ap (λ (rs : List Rule). sets table 0 (encode rule_layout rs)) (rules_by_lem (steps_of c.steps steps) 0 (rules_of c.rules rules))
        ∙ sets-front table vs (omega (arith, rules_ask.2)) ∙ ap (λ (x : ℕ). vs ++ drop x table) n

    pub rules_fill : Fillable rules steps c now out d
    rules_fill =
        let room = room_says table out d b.room in
        let rs = rules_from 0 (events_in rules steps c) in
        let size : length now ≡ length table = ap length rules_stand ∙ then-length rule_layout c.rules rs table (rules-count rules steps c) rules_ask.2 in
        record {
          formed = b.formed;
          ordered = b.ordered;
          count = b.count;
          rule_room = omega (arith, room.rule_room);
          step_room = room.step_room;
          rules_in = rw (b.count, rules_stand) (then-decode rule_layout c.rules rs (drop (4 * c.rules) table) (rules-count rules steps c));
          steps_in = exact;
        }

    pub built : (exit : List ℕ) → exit ≡ sets out 0 (encode step_layout (walks_of (events_in rules steps c))) → TableIn (expanded (list_of rules steps c)) table out now exit
    built exit q =
        let room = room_says table out d b.room in
        let xs = walks_of (events_in rules steps c) in
        let n : length (encode step_layout xs) ≡ 2 * length xs = length-encode step_layout xs in
        rw (table_is (list_of rules steps c))
        record {
          rules_in = rules_stand ∙ ap (λ (x : ℕ). encode rule_layout (rules_from 0 (events_in rules steps c)) ++ drop (4 * x) table) (sym (rules-count rules steps c));
          steps_in = q ∙ sets-front out (encode step_layout xs) (omega (arith, room.step_room, exact)) ∙ ap (λ (x : ℕ). encode step_layout xs ++ drop x out) n;
        }

  -- the counts that are given
  pub given-rules : d.rules ≡ length (expanded (list_of rules steps c)).rules
  given-rules = b.count ∙ sym (table-rules rules steps c)

  pub given-steps : d.steps ≡ length (expanded (list_of rules steps c)).steps
  given-steps = exact ∙ sym (table-steps rules steps c)
