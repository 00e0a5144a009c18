-- enumerate_branch: 01 "Prefix, groups, collapse", groups of v; its numbers are 13, 5, 8 and 7.
use Rattle.std.specs.Prelude.{ℕ, cond, not, List, eqb, leb, length, Result, Ok, Err}
use Rattle.kit.specs.declared.Refusal.{Refusal}
use Rattle.kit.specs.Refusal.{number}
use Rattle.handle.specs.Handle.{id_of}
use Rattle.store.specs.declared.Counts.{Counts}
use Rattle.store.specs.Graph.{graph_of, handle}
use Rattle.store.specs.Views.{live_node}
use Rattle.formed.specs.WellFormed.{graph_number}
use Rattle.groups.specs.Groups.{groups_of, members_of, ends_from, numbers, over}
use Rattle.asking.specs.declared.enumerate_branch.Branch.{Branch}

abbrev pub branch : ℕ → ℕ → Branch
branch number groups = record { number = number; groups = groups }

-- a refusal tells no groups
abbrev pub answered : Result ℕ Refusal → Branch
answered (Ok n) = branch 0 n
answered (Err why) = branch (number why) 0

-- all that a caller sees: the answer, and the two lent arrays as it finds them
pub record Outcome : Type 0 where
  pub answer : Branch
  pub members : List ℕ
  pub ends : List ℕ

abbrev pub outcome : Branch → List ℕ → List ℕ → Outcome
outcome answer members ends = record { answer = answer; members = members; ends = ends }

-- a refusal changes no lent number
abbrev pub refused : ℕ → List ℕ → List ℕ → Outcome
refused number members ends = outcome (branch number 0) members ends

-- 13 or 5, then 8 for v absent or marked, then 7 for members or ends that don't fit, else the groups
abbrev pub branch_outcome : List ℕ → List ℕ → List ℕ → Counts → ℕ → List ℕ → List ℕ → Outcome
branch_outcome nodes letters links c v members ends =
    let number = graph_number nodes letters links c in
    let g = graph_of nodes letters links c in
    let gs = groups_of g (handle v) in
    cond (not (eqb number 0)) (refused number members ends)
    (cond (not (live_node (id_of (handle v)) g.nodes)) (refused 8 members ends)
    (cond (not (leb (length (members_of gs)) (length members))) (refused 7 members ends)
    (cond (not (leb (length gs) (length ends))) (refused 7 members ends)
    (outcome (branch 0 (length gs)) (over (numbers (members_of gs)) members) (over (ends_from 0 gs) ends)))))
