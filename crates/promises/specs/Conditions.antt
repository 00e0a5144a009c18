-- The conditions 1 to 7 as propositions: 01 "The eight conditions". Nothing is said of who made the table.
use Rattle.std.specs.Prelude.{ℕ, ◌+◌, ◌≤◌, ◌<◌, ◌≡◌, true, false, eqb, length, get_or}
use mathlib.Core.List.{List, Memᴰ}
use Rattle.kit.specs.Loops.{sum, distinct, lines}
use Rattle.letters.specs.Sequences.{same_spelling}
use Rattle.handle.specs.Handle.{id_of, pack}
use Rattle.handle.specs.Edge.{edge}
use Rattle.store.specs.Graph.{Graph}
use Rattle.store.specs.declared.Node.{Node}
use Rattle.store.specs.declared.Link.{Link}
use Rattle.store.specs.Views.{stored, len_of, live_node, spell, live_linked}
use Rattle.events.specs.Events.{Rules, step, walk_of}
use Rattle.events.specs.declared.Rule.{Rule}
use Rattle.events.specs.declared.Step.{Step}
use Rattle.spelling.specs.Spelling.{spell_walk}
use Rattle.rewriting.specs.Rewriting.{ruled, nodes_on, transform_node}
use Rattle.keeping.specs.Kept.{last_of, first_of}
use Rattle.verdict.specs.Conditions.{protected_ids}

abbrev pub step_at : List Step → ℕ → Step
step_at ss j = get_or ss j (step 0 0)

-- 2: its node live, its recorded length the node's own, and a live link from the step before
pub record StepHolds (new : Graph) (ss : List Step) (j : ℕ) : Type 0 where
  pub lives : live_node (id_of (step_at ss j).node) new.nodes ≡ true
  pub own_length : (step_at ss j).len ≡ len_of new (id_of (step_at ss j).node)
  pub joined : (i : ℕ) → i + 1 ≡ j → live_linked new (edge (step_at ss i).node (step_at ss j).node) ≡ true

-- 1: at least one step; 2; 3: lengths sum to the key's; 4: if the key is an old node of that length, same spelling
pub record RuleHolds (old new : Graph) (steps : List Step) (r : Rule) : Type 0 where
  pub some_step : 1 ≤ r.steps
  pub steps_hold : (j : ℕ) → j < length (walk_of steps r) → StepHolds new (walk_of steps r) j
  pub lengths : sum (λ s. s.len) (walk_of steps r) ≡ r.len
  pub spells : stored r.id old.nodes ≡ true → len_of old r.id ≡ r.len → same_spelling (spell old (pack r.id 0)) (spell_walk new (nodes_on steps r)) ≡ true

-- 5: live in the new graph, same spelling
pub record NodeHolds (old new : Graph) (id : ℕ) : Type 0 where
  pub lives : live_node id new.nodes ≡ true
  pub spells : same_spelling (spell old (pack id 0)) (spell new (pack id 0)) ≡ true

pub record Conditions (old new : Graph) (t : Rules) (protected : List ℕ) : Type 0 where
  pub rules_hold : (r : Rule) → Memᴰ r t.rules → RuleHolds old new t.steps r
  pub nodes_hold : (n : Node) → Memᴰ n old.nodes → ruled n.id (len_of old n.id) t.rules ≡ false → NodeHolds old new n.id
  -- 6: a live counterpart from the last step of one image to the first of the next
  pub links_hold : (l : Link) → Memᴰ l old.links → live_linked new (edge (last_of (transform_node old t l.from)) (first_of (transform_node old t l.to))) ≡ true
  -- 7: no new node twice in the walks of protected nodes that have rules under their length
  pub none_twice : distinct eqb (lines (protected_ids old t) protected) ≡ true
