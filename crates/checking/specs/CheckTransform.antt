-- check_transform: 01 "The eight conditions"; its numbers are 13, 5, 6, then 20 to 28 in the order of the conditions.
use Rattle.std.specs.Prelude.{ℕ, ◌≡◌, cond, not, List, eqb}
use Rattle.std.proofs.Common.{sym, ◌∙◌}
use Rattle.kit.specs.Loops.{all, distinct}
use Rattle.store.specs.declared.Counts.{Counts}
use Rattle.store.specs.Graph.{Graph, graph_of}
use Rattle.store.specs.Views.{stored}
use Rattle.formed.specs.WellFormed.{well_formed, old_formed, ids_once}
use Rattle.events.specs.declared.Used.{Used}
use Rattle.events.specs.Events.{rules_of, list_of}
use Rattle.events.specs.WellFormed.{table_formed, keys_once}
use Rattle.scanning.specs.declared.Verdict.{Verdict}
use Rattle.scanning.specs.Rules.{verdict}
use Rattle.verdict.specs.Conditions.{conditions_fault}

-- a graph as it is lent: three arrays and the counts of what is in use
pub record Lent : Type 0 where
  pub nodes : List ℕ
  pub letters : List ℕ
  pub links : List ℕ
  pub counts : Counts

abbrev pub lent : List ℕ → List ℕ → List ℕ → Counts → Lent
lent nodes letters links c = record { nodes = nodes; letters = letters; links = links; counts = c }

abbrev pub graph_in : Lent → Graph
graph_in l = graph_of l.nodes l.letters l.links l.counts

-- 8: none of 13, of any argument, then of 5, then of 6
abbrev pub input_number : Lent → Lent → List ℕ → List ℕ → Used → List ℕ → ℕ
input_number old new rules steps u protected =
    cond (not (old_formed old.nodes old.letters old.links old.counts)) 13
    (cond (not (well_formed new.nodes new.letters new.links new.counts)) 13
    (cond (not (table_formed rules steps u)) 13
    (cond (not (ids_once (graph_in old).nodes)) 5
    (cond (not (ids_once (graph_in new).nodes)) 5
    (cond (not (keys_once (rules_of u.rules rules))) 5
    (cond (not (distinct eqb protected)) 5
    (cond (not (all (λ id. stored id (graph_in old).nodes) protected)) 6
    0)))))))

-- the first fault; nothing is written
unfoldable pub check_outcome : Lent → Lent → List ℕ → List ℕ → Used → List ℕ → Verdict
check_outcome old new rules steps u protected =
    let number = input_number old new rules steps u protected in
    cond (not (eqb number 0)) (verdict number 0 0)
    (conditions_fault (graph_in old) (graph_in new) (list_of rules steps u) protected)

-- two outcomes that the statement allows are equal
pub one-outcome : (old new : Lent) (rules steps : List ℕ) (u : Used) (protected : List ℕ) (v w : Verdict) → v ≡ check_outcome old new rules steps u protected → w ≡ check_outcome old new rules steps u protected → v ≡ w
one-outcome old new rules steps u protected v w e f = e ∙ sym f
