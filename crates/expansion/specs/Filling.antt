-- The table while it is filled, from its last rule back: a node is expanded by the rules that stand in it already.
use Rattle.std.specs.Prelude.{ℕ, ◌+◌, ◌*◌, ◌≤◌, ◌≡◌, Bool, true, cond, ◌&&◌, List, leb, length, take, drop, get_or}
use Rattle.std.proofs.lemmas.List.Edits.{sets}
use Rattle.kit.specs.Layout.{encode}
use Rattle.kit.specs.Loops.{all}
use Rattle.events.specs.declared.Used.{Used}
use Rattle.events.specs.Events.{step_layout, rules_of, steps_of, turn_steps}
use Rattle.events.specs.declared.Rule.{Rule}
use Rattle.events.specs.declared.Step.{Step}
use Rattle.expansion.specs.Expansion.{expand_node, expand_walk}

-- a walk as it stands, or reversed and flipped
abbrev pub toward : Bool → List Step → List Step
toward forward ws = cond forward ws (turn_steps ws)

-- a part of the steps in use
abbrev pub part_of : List ℕ → Used → ℕ → ℕ → List Step
part_of steps c first n = take n (drop first (steps_of c.steps steps))

-- the walk of event i, read from the numbers of its rule
abbrev pub event_walk : List ℕ → List ℕ → ℕ → List Step
event_walk rules steps i = steps_of (get_or rules (4 * i + 3) 0) (drop (2 * get_or rules (4 * i + 2) 0) steps)

-- what a node and a walk expand to by the rules from `ahead` on
abbrev pub node_in : List ℕ → List ℕ → Used → ℕ → Step → List Step
node_in rules steps c ahead s = expand_node (steps_of c.steps steps) (drop ahead (rules_of c.rules rules)) s

abbrev pub walk_in : List ℕ → List ℕ → Used → ℕ → List Step → List Step
walk_in rules steps c ahead ws = expand_walk (steps_of c.steps steps) (drop ahead (rules_of c.rules rules)) ws

-- a rule's walk lies at `place` or after it, inside the steps in use
abbrev pub lies : ℕ → ℕ → Rule → Bool
lies place total r = leb place r.first && leb (r.first + r.steps) total

-- xs can be written from step `at` on: it ends before the walks of the rules from `ahead` on
pub record Ready (rules steps : List ℕ) (c : Used) (ahead at : ℕ) (xs : List Step) : Type 0 where
  pub rule_room : 4 * c.rules ≤ length rules
  pub step_room : 2 * c.steps ≤ length steps
  pub ahead_in : ahead ≤ c.rules
  pub fits : at + length xs ≤ c.steps
  pub above : all (lies (at + length xs) c.steps) (drop ahead (rules_of c.rules rules)) ≡ true

-- xs was written from step `at` on, which left m, and next is the step after it
pub record Written (l : List ℕ) (at : ℕ) (xs : List Step) (m : List ℕ) (next : ℕ) : Type 0 where
  pub place : next ≡ at + length xs
  pub numbers : m ≡ sets l (2 * at) (encode step_layout xs)
