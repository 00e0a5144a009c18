-- The parts of the table's building: the lengths of its walks, from the last event back, and its steps, likewise.
use Rattle.std.specs.Prelude.{ℕ, ◌*◌, ◌≤◌, ◌≡◌, true, List, ◌++◌, length, take, drop}
use Rattle.kit.specs.Layout.{encode}
use Rattle.events.specs.declared.Used.{Used}
use Rattle.events.specs.Events.{Rules, rule_layout, step_layout, rules_of, steps_of, list_of, walks_of, rules_from}
use Rattle.events.specs.WellFormed.{room_for_rules, table_formed, in_order}
use Rattle.expansion.specs.Expansion.{expand_from}
use Rattle.expansion.specs.Table.{capped, sizes_of, events_in}

-- lens holds the lengths of the events from `ahead` on
pub record Known (rules steps : List ℕ) (c : Used) (lens : List ℕ) (ahead : ℕ) : Type 0 where
  pub rule_room : 4 * c.rules ≤ length rules
  pub step_room : 2 * c.steps ≤ length steps
  pub len_room : c.rules ≤ length lens
  pub ahead_in : ahead ≤ c.rules
  pub sizes : drop ahead (take c.rules lens) ≡ sizes_of (expand_from (steps_of c.steps steps) (drop ahead (rules_of c.rules rules)))

-- the lengths of all of them, and their sum
pub record Measured (rules steps : List ℕ) (c : Used) (lens : List ℕ) (total : ℕ) : Type 0 where
  pub sizes : take c.rules lens ≡ sizes_of (events_in rules steps c)
  pub all : total ≡ capped (length (walks_of (events_in rules steps c)))

-- the table's rules stand, and its steps have room
pub record Fillable (rules steps : List ℕ) (c : Used) (table out : List ℕ) (d : Used) : Type 0 where
  pub formed : table_formed rules steps c ≡ true
  pub ordered : in_order (list_of rules steps c) ≡ true
  pub count : d.rules ≡ c.rules
  pub rule_room : 4 * d.rules ≤ length table
  pub step_room : 2 * d.steps ≤ length out
  pub rules_in : rules_of d.rules table ≡ rules_from 0 (events_in rules steps c)
  pub steps_in : d.steps ≡ length (walks_of (events_in rules steps c))

-- the lengths are known, and the table they give has room
pub record Buildable (rules steps : List ℕ) (c : Used) (lens table out : List ℕ) (d : Used) : Type 0 where
  pub formed : table_formed rules steps c ≡ true
  pub ordered : in_order (list_of rules steps c) ≡ true
  pub count : d.rules ≡ c.rules
  pub room : room_for_rules table out d ≡ true
  pub measured : Measured rules steps c lens d.steps

-- the table stands at the front of both arrays
pub record TableIn (t : Rules) (table out in_table inOut : List ℕ) : Type 0 where
  pub rules_in : in_table ≡ encode rule_layout t.rules ++ drop (4 * length t.rules) table
  pub steps_in : inOut ≡ encode step_layout t.steps ++ drop (2 * length t.steps) out
