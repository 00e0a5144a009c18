-- Steps of a table as records of their own, the number of one of them and of a walk: 01 "The eight conditions", 2.
use Rattle.std.specs.Prelude.{ℕ, ◌≡◌, Bool, cond, ◌&&◌, List, [], ◌∷◌, map, eqb, leb, length, get_or}
use Rattle.std.proofs.Common.{sym, ◌∙◌}
use Rattle.kit.specs.Loops.{all}
use Rattle.handle.specs.Handle.{is_id, pack}
use Rattle.store.specs.declared.Counts.{Counts}
use Rattle.store.specs.Graph.{Graph, nodes_of, graph_of}
use Rattle.formed.specs.WellFormed.{well_formed, ids_once}
use Rattle.events.specs.Events as events
use Rattle.events.specs.declared.Step as walked
use Rattle.scanning.specs.declared.Verdict.{Verdict}
use Rattle.scanning.specs.Rules.{verdict, or_then, unless, step_fault, steps_fault}
use Rattle.records.specs.declared.Step.{Step}

abbrev pub record_of : ℕ → ℕ → ℕ → Step
record_of id direction len = record { id = id; direction = direction; length = len }

-- the record as the table's step
abbrev pub step_of : Step → walked.Step
step_of r = events.step (pack r.id r.direction).packed r.length

-- an id is 1 to 4,294,967,295, a direction 0 or 1
abbrev pub in_range : Step → Bool
in_range r = is_id r.id && leb r.direction 1

-- 13, else 21, 22, 23 or 0 of the step s; a first one has no step before it
abbrev pub fields_fault : Graph → Bool → Step → Step → ℕ
fields_fault g first b s =
    cond (in_range b && in_range s) (step_fault g 0 0 (cond first [] (step_of b ∷ [])) (step_of s)).number 13

-- of the record at `at`; the step before it stands at `before`, which is `at` where there is none
abbrev pub record_fault : Graph → List Step → ℕ → ℕ → ℕ
record_fault g rs before at =
    fields_fault g (eqb before at) (get_or rs before (record_of 0 0 0)) (get_or rs at (record_of 0 0 0))

-- a well formed graph, and no more steps than 01's limit
abbrev pub input_formed : List ℕ → List ℕ → List ℕ → Counts → ℕ → Bool
input_formed nodes letters links d count = well_formed nodes letters links d && leb count 262144

-- 13 or 5, before any record is looked at
abbrev pub input_fault : List ℕ → List ℕ → List ℕ → Counts → ℕ → Verdict
input_fault nodes letters links d count =
    or_then (unless (input_formed nodes letters links d count) 13 0 0) (unless (ids_once (nodes_of d.nodes nodes)) 5 0 0)

-- a step's number n, after what was found before it: 13 goes before all else
abbrev pub next_fault : Verdict → ℕ → ℕ → Verdict
next_fault found n at =
    cond (eqb n 13) (verdict 13 0 0) (cond (eqb found.number 0) (cond (eqb n 0) found (verdict n 0 at)) found)

-- 13 of any record, then what was found before, then 21, 22, 23 by step
abbrev pub scanned : Graph → Verdict → List Step → Verdict
scanned g found rs =
    or_then (unless (all in_range rs) 13 0 0) (or_then found (steps_fault g 0 0 [] (map step_of rs)))

-- 13 of the graph, the count or any record, then 5, then 21, 22, 23 by step; the second place is the step's
unfoldable pub steps_outcome : List ℕ → List ℕ → List ℕ → Counts → List Step → Verdict
steps_outcome nodes letters links d rs =
    or_then (unless (input_formed nodes letters links d (length rs) && all in_range rs) 13 0 0)
    (or_then (unless (ids_once (nodes_of d.nodes nodes)) 5 0 0)
    (steps_fault (graph_of nodes letters links d) 0 0 [] (map step_of rs)))

-- two outcomes that the statement allows are equal
pub one-outcome : (nodes letters links : List ℕ) (d : Counts) (rs : List Step) (v w : Verdict) → v ≡ steps_outcome nodes letters links d rs → w ≡ steps_outcome nodes letters links d rs → v ≡ w
one-outcome nodes letters links d rs v w e f = e ∙ sym f
