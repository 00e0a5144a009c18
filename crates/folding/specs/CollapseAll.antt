-- collapse_all, the driver: 01 "Prefix, groups, collapse", driver; its numbers are 13, 5 (ids, keys, protected ids), 6, 12
-- and 7, then those of the first refused collapse.
use Rattle.std.specs.Prelude.{ℕ, ◌≡◌, cond, not, List, eqb, ltb, length}
use Rattle.std.proofs.Common.{sym, ◌∙◌}
use Rattle.store.specs.declared.Counts.{Counts}
use Rattle.store.specs.Graph.{nodes_of}
use Rattle.protected.specs.Protected.{ids_apart, ids_stored}
use Rattle.events.specs.declared.Used.{Used}
use Rattle.events.specs.Events.{list_of}
use Rattle.events.specs.WellFormed.{in_order}
use Rattle.collapsing.specs.Outcome.{Lent, state_number}
use Rattle.driver.specs.Outcome.{Outcome, refused, drive_outcome}

-- what is refused before anything is collapsed
abbrev pub driver_number : Lent → List ℕ → Counts → Used → List ℕ → ℕ
driver_number l letters c u protected =
    let number = state_number l letters c u in
    cond (not (eqb number 0)) number
    (cond (not (ids_apart protected)) 5
    (cond (not (ids_stored (nodes_of c.nodes l.nodes) protected)) 6
    (cond (not (in_order (list_of l.rules l.steps u))) 12
    (cond (ltb 4096 (length protected)) 7
    0))))

unfoldable pub collapse_all_outcome : Lent → List ℕ → Counts → Used → List ℕ → Outcome
collapse_all_outcome l letters c u protected =
    let number = driver_number l letters c u protected in
    cond (not (eqb number 0)) (refused number c u l) (drive_outcome l letters c u protected)

-- two outcomes that the statement allows are equal
pub one-outcome : (l : Lent) (letters : List ℕ) (c : Counts) (u : Used) (protected : List ℕ) (x y : Outcome) → x ≡ collapse_all_outcome l letters c u protected → y ≡ collapse_all_outcome l letters c u protected → x ≡ y
one-outcome l letters c u protected x y e f = e ∙ sym f
