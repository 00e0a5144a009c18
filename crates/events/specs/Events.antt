-- Rules and their steps, as they lie in flat arrays: 01 "Prefix, groups, collapse", events. An event list and a table have
-- the same form.
use Rattle.std.specs.Prelude.{ℕ, ◌+◌, ◌*◌, ◌≤◌, ◌≡◌, refl, Bool, ◌&&◌, List, [], ◌∷◌, ◌++◌, eqb, length, take, drop, get_or, Option}
use Rattle.std.proofs.Common.{arith}
use Rattle.kit.specs.Layout.{Layout, decode}
use Rattle.kit.specs.Loops.{find, lines}
use Rattle.handle.specs.declared.Handle.{Handle}
use Rattle.handle.specs.Handle.{flip}
use Rattle.events.specs.declared.Rule.{Rule}
use Rattle.events.specs.declared.Step.{Step}
use Rattle.events.specs.declared.Used.{Used}

abbrev pub rule : ℕ → ℕ → ℕ → ℕ → Rule
rule id len first steps = record { id = id; len = len; first = first; steps = steps }

abbrev pub step : ℕ → ℕ → Step
step packed len = record { node = record { packed = packed }; len = len }

pub record Rules : Type 0 where
  pub rules : List Rule
  pub steps : List Step

abbrev pub pack_rule : Rule → List ℕ
pack_rule r = r.id ∷ r.len ∷ r.first ∷ r.steps ∷ []

abbrev pub unpack_rule : List ℕ → Rule
unpack_rule l = rule (get_or l 0 0) (get_or l 1 0) (get_or l 2 0) (get_or l 3 0)

pub near_rule : (l : List ℕ) → unpack_rule (take 4 l) ≡ unpack_rule l
near_rule [] = refl
near_rule (a ∷ []) = refl
near_rule (a ∷ b ∷ []) = refl
near_rule (a ∷ b ∷ c ∷ []) = refl
near_rule (a ∷ b ∷ c ∷ d ∷ l) = refl

pub whole_rule : (l : List ℕ) → 4 ≤ length l → pack_rule (unpack_rule l) ≡ take 4 l
whole_rule [] h = absurd (omega arith)
whole_rule (a ∷ []) h = absurd (omega arith)
whole_rule (a ∷ b ∷ []) h = absurd (omega arith)
whole_rule (a ∷ b ∷ c ∷ []) h = absurd (omega arith)
whole_rule (a ∷ b ∷ c ∷ d ∷ l) h = refl

abbrev pub rule_layout : Layout Rule
rule_layout =
    record {
      stride = 4;
      pack = pack_rule;
      unpack = unpack_rule;
      packed = λ a. refl;
      unpack_pack = λ a r. refl;
      near = near_rule;
      pack_unpack = whole_rule;
    }

abbrev pub pack_step : Step → List ℕ
pack_step r = r.node.packed ∷ r.len ∷ []

abbrev pub unpack_step : List ℕ → Step
unpack_step l = step (get_or l 0 0) (get_or l 1 0)

pub near_step : (l : List ℕ) → unpack_step (take 2 l) ≡ unpack_step l
near_step [] = refl
near_step (a ∷ []) = refl
near_step (a ∷ b ∷ l) = refl

pub whole_step : (l : List ℕ) → 2 ≤ length l → pack_step (unpack_step l) ≡ take 2 l
whole_step [] h = absurd (omega arith)
whole_step (a ∷ []) h = absurd (omega arith)
whole_step (a ∷ b ∷ l) h = refl

abbrev pub step_layout : Layout Step
step_layout =
    record {
      stride = 2;
      pack = pack_step;
      unpack = unpack_step;
      packed = λ a. refl;
      unpack_pack = λ a r. refl;
      near = near_step;
      pack_unpack = whole_step;
    }

abbrev pub rules_of : ℕ → List ℕ → List Rule
rules_of n l = decode rule_layout n l

abbrev pub steps_of : ℕ → List ℕ → List Step
steps_of n l = decode step_layout n l

-- the i-th rule and the i-th step
abbrev pub rule_at : List ℕ → ℕ → Rule
rule_at l i = rule (get_or l (4 * i) 0) (get_or l (4 * i + 1) 0) (get_or l (4 * i + 2) 0) (get_or l (4 * i + 3) 0)

abbrev pub step_at : List ℕ → ℕ → Step
step_at l i = step (get_or l (2 * i) 0) (get_or l (2 * i + 1) 0)

-- the list in two lent arrays, by the counts of what is in use
abbrev pub list_of : List ℕ → List ℕ → Used → Rules
list_of rules steps c = record { rules = rules_of c.rules rules; steps = steps_of c.steps steps }

-- the steps of a rule
abbrev pub walk_of : List Step → Rule → List Step
walk_of steps r = take r.steps (drop r.first steps)

abbrev pub keyed : ℕ → ℕ → Rule → Bool
keyed id len r = eqb r.id id && eqb r.len len

-- the slot of the rule under a key
abbrev pub find_rule : ℕ → ℕ → List Rule → Option ℕ
find_rule id len rs = find (keyed id len) rs

abbrev pub step_to : Handle → ℕ → Step
step_to h len = record { node = h; len = len }

-- a walk reversed and flipped, each step with its length
abbrev pub turn_steps : List Step → List Step
turn_steps [] = []
turn_steps (s ∷ ss) = turn_steps ss ++ (step_to (flip s.node) s.len ∷ [])

-- a key and its walk, before it has a place in the arrays
pub record Event : Type 0 where
  pub id : ℕ
  pub len : ℕ
  pub walk : List Step

abbrev pub event : ℕ → ℕ → List Step → Event
event id len walk = record { id = id; len = len; walk = walk }

-- the walks of events, one after another
abbrev pub walks_of : List Event → List Step
walks_of es = lines (λ e. e.walk) es

-- the events' rules, whose steps start at the step `first`
abbrev pub rules_from : ℕ → List Event → List Rule
rules_from first [] = []
rules_from first (e ∷ es) = rule e.id e.len first (length e.walk) ∷ rules_from (first + length e.walk) es

-- appended to a list, one after another
abbrev pub append : Rules → Event → Rules
append t e =
    record {
      rules = t.rules ++ (rule e.id e.len (length t.steps) (length e.walk) ∷ []);
      steps = t.steps ++ e.walk;
    }

abbrev pub append_all : Rules → List Event → Rules
append_all t [] = t
append_all t (e ∷ es) = append_all (append t e) es
