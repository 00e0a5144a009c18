-- The rules of a table, one by one: 01 "The eight conditions", 1 to 4. Each is a test of its own; a fault is a number with two
-- places.
use Rattle.std.specs.Prelude.{ℕ, ◌+◌, Bool, true, cond, not, ◌&&◌, ◌||◌, List, [], ◌∷◌, eqb}
use Rattle.kit.specs.Loops.{sum}
use Rattle.letters.specs.Sequences.{same_spelling}
use Rattle.handle.specs.Handle.{id_of, pack}
use Rattle.handle.specs.Edge.{edge}
use Rattle.store.specs.Graph.{Graph}
use Rattle.store.specs.Views.{stored, len_of, live_node, spell, live_linked}
use Rattle.events.specs.Events.{walk_of}
use Rattle.events.specs.declared.Rule.{Rule}
use Rattle.events.specs.declared.Step.{Step}
use Rattle.spelling.specs.Spelling.{spell_walk}
use Rattle.rewriting.specs.Rewriting.{nodes_on}
use Rattle.scanning.specs.declared.Verdict.{Verdict}

abbrev pub verdict : ℕ → ℕ → ℕ → Verdict
verdict number first second = record { number = number; first = first; second = second }

-- the first fault of two
abbrev pub or_then : Verdict → Verdict → Verdict
or_then v w = cond (eqb v.number 0) w v

-- a number and its places where a test fails
abbrev pub unless : Bool → ℕ → ℕ → ℕ → Verdict
unless passes number first second = cond passes (verdict 0 0 0) (verdict number first second)

-- 1: at least one step
abbrev pub has_steps : Rule → Bool
has_steps r = not (eqb r.steps 0)

-- 2: a step's node is live, its recorded length the node's own, and there is a live link from the step before
abbrev pub step_lives : Graph → Step → Bool
step_lives new s = live_node (id_of s.node) new.nodes

abbrev pub length_true : Graph → Step → Bool
length_true new s = eqb s.len (len_of new (id_of s.node))

abbrev pub follows : Graph → List Step → Step → Bool
follows new [] s = true
follows new (b ∷ bs) s = live_linked new (edge b.node s.node)

abbrev pub step_fault : Graph → ℕ → ℕ → List Step → Step → Verdict
step_fault new i j before s =
    or_then (unless (step_lives new s) 21 i j) (or_then (unless (length_true new s) 22 i j) (unless (follows new before s) 23 i j))

-- by step; `before` is the step before, where there is one
abbrev pub steps_fault : Graph → ℕ → ℕ → List Step → List Step → Verdict
steps_fault new i j before [] = verdict 0 0 0
steps_fault new i j before (s ∷ ss) = or_then (step_fault new i j before s) (steps_fault new i (j + 1) (s ∷ []) ss)

-- 3: lengths sum to the key's
abbrev pub lengths_sum : List Step → Rule → Bool
lengths_sum steps r = eqb (sum (λ s. s.len) (walk_of steps r)) r.len

-- 4: if the key is an old node of that length, same spelling
abbrev pub is_old_key : Graph → Rule → Bool
is_old_key old r = stored r.id old.nodes && eqb (len_of old r.id) r.len

abbrev pub spells_key : Graph → Graph → List Step → Rule → Bool
spells_key old new steps r =
    not (is_old_key old r) || same_spelling (spell old (pack r.id 0)) (spell_walk new (nodes_on steps r))

-- 1 to 4 of the rule i, then of those after it
abbrev pub rule_fault : Graph → Graph → List Step → ℕ → Rule → Verdict
rule_fault old new steps i r =
    or_then (unless (has_steps r) 20 i 0)
    (or_then (steps_fault new i 0 [] (walk_of steps r))
    (or_then (unless (lengths_sum steps r) 24 i 0)
    (unless (spells_key old new steps r) 25 i 0)))

abbrev pub rules_fault : Graph → Graph → List Step → ℕ → List Rule → Verdict
rules_fault old new steps i [] = verdict 0 0 0
rules_fault old new steps i (r ∷ rs) = or_then (rule_fault old new steps i r) (rules_fault old new steps (i + 1) rs)
