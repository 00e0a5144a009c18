-- The checker's tests in their order, each with what it gives where it fails: 01 "The eight conditions".
use Rattle.std.specs.Prelude.{ℕ, ◌+◌, ◌<◌, ◌≡◌, Bool, true, false, List, [], ◌∷◌, ◌++◌, length, get_or}
use Rattle.handle.specs.declared.Handle.{Handle}
use Rattle.handle.specs.Handle.{id_of}
use Rattle.store.specs.Graph.{Graph}
use Rattle.store.specs.declared.Link.{Link}
use Rattle.store.specs.Order.{written_order}
use Rattle.events.specs.Events.{Rules, walk_of}
use Rattle.events.specs.declared.Rule.{Rule}
use Rattle.events.specs.declared.Step.{Step}
use Rattle.scanning.specs.declared.Verdict.{Verdict}
use Rattle.scanning.specs.Rules.{verdict, has_steps, step_lives, length_true, follows, lengths_sum, spells_key}
use Rattle.keeping.specs.Kept.{node_kept, old_nodes, link_kept}
use Rattle.verdict.specs.Conditions.{protected_ids, no_repeat}

pub record Test : Type 0 where
  pub passes : Bool
  pub fault : Verdict

abbrev pub test : Bool → ℕ → ℕ → ℕ → Test
test passes number first second = record { passes = passes; fault = verdict number first second }

-- 2, of the steps from place j on; `before` is the step before, where there is one
abbrev pub walk_tests : Graph → ℕ → ℕ → List Step → List Step → List Test
walk_tests new i j before [] = []
walk_tests new i j before (s ∷ ss) =
    test (step_lives new s) 21 i j
    ∷ test (length_true new s) 22 i j
    ∷ test (follows new before s) 23 i j
    ∷ walk_tests new i (j + 1) (s ∷ []) ss

-- 1 to 4, of the rule i
abbrev pub rule_tests : Graph → Graph → List Step → ℕ → Rule → List Test
rule_tests old new steps i r =
    test (has_steps r) 20 i 0
    ∷ (walk_tests new i 0 [] (walk_of steps r)
    ++ (test (lengths_sum steps r) 24 i 0 ∷ test (spells_key old new steps r) 25 i 0 ∷ []))

abbrev pub rules_tests : Graph → Graph → List Step → ℕ → List Rule → List Test
rules_tests old new steps i [] = []
rules_tests old new steps i (r ∷ rs) = rule_tests old new steps i r ++ rules_tests old new steps (i + 1) rs

-- 5
abbrev pub nodes_tests : Graph → Graph → Rules → List Handle → List Test
nodes_tests old new t [] = []
nodes_tests old new t (h ∷ hs) = test (node_kept old new t h) 26 (id_of h) 0 ∷ nodes_tests old new t hs

-- 6
abbrev pub links_tests : Graph → Graph → Rules → ℕ → List Link → List Test
links_tests old new t i [] = []
links_tests old new t i (r ∷ rs) = test (link_kept old new t r) 27 i 0 ∷ links_tests old new t (i + 1) rs

-- 7; `seen` are the nodes of the walks before
abbrev pub protected_tests : Graph → Rules → ℕ → List ℕ → List ℕ → List Test
protected_tests old t i seen [] = []
protected_tests old t i seen (id ∷ ids) =
    test (no_repeat seen (protected_ids old t id)) 28 i 0 ∷ protected_tests old t (i + 1) (seen ++ protected_ids old t id) ids

abbrev pub all_tests : Graph → Graph → Rules → List ℕ → List Test
all_tests old new t protected =
    rules_tests old new t.steps 0 t.rules
    ++ (nodes_tests old new t (old_nodes old)
    ++ (links_tests old new t 0 (written_order old.links)
    ++ protected_tests old t 0 [] protected))

abbrev pub test_at : List Test → ℕ → Test
test_at xs i = get_or xs i (test true 0 0 0)

-- "the first fault gives its number and two places": the test i fails and every one before it passes
pub record FirstToFail (xs : List Test) (i : ℕ) : Type 0 where
  pub here : i < length xs
  pub fails : (test_at xs i).passes ≡ false
  pub others_pass : (j : ℕ) → j < i → (test_at xs j).passes ≡ true
