-- collapse: 01 "Prefix, groups, collapse", fourth and fifth entry; its numbers are 13, 5, 8, 9, 10, 11, then 5 and 12 of
-- the longer list, then 7.
use Rattle.std.specs.Prelude.{ℕ, ◌≡◌, cond, not, List, eqb}
use Rattle.std.proofs.Common.{sym, ◌∙◌}
use Rattle.store.specs.declared.Counts.{Counts}
use Rattle.affix.specs.Prefix.{handles_of}
use Rattle.events.specs.declared.Used.{Used}
use Rattle.collapsing.specs.Outcome.{Lent, Outcome, refused, group_outcome, state_number}

-- 13 or 5, then what the group gives
unfoldable pub collapse_outcome : Lent → List ℕ → Counts → Used → List ℕ → ℕ → Outcome
collapse_outcome l letters c u members p =
    let number = state_number l letters c u in
    cond (not (eqb number 0)) (refused number c u l) (group_outcome l letters c u (handles_of members) p)

-- two outcomes that the statement allows are equal
pub one-outcome : (l : Lent) (letters : List ℕ) (c : Counts) (u : Used) (members : List ℕ) (p : ℕ) (x y : Outcome) → x ≡ collapse_outcome l letters c u members p → y ≡ collapse_outcome l letters c u members p → x ≡ y
one-outcome l letters c u members p x y e f = e ∙ sym f
