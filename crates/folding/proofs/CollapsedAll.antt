-- collapse_all: unless it is refused, no group that it must collapse is left in the arrays; and on the arrays of C8, what it
-- answers and which refusal comes first.
use Prim.Native.Nat.{ℕ}
use mathlib.Core.Path.{◌≡◌, refl}
use mathlib.Core.Bool.{Bool, true, false, cond, not}
use mathlib.Core.List.{List, [], ◌∷◌}
use borrow.Author.Tests.{eqb-true, eqb-false}
use lib.Dec.{eqb}
use Rattle.letters.specs.Letters.{complement_of, upper_of, is_base, is_letter}
use Rattle.handle.specs.Handle.{flip, before}
use Rattle.handle.specs.Edge.{written}
use Rattle.store.specs.declared.Counts.{Counts}
use Rattle.store.specs.Graph.{graph_of}
use Rattle.events.specs.declared.Used.{Used}
use Rattle.collapsing.specs.Outcome.{Lent, lent, state_number}
use Rattle.collapsing.proofs.Given.{state-zero}
use Rattle.collapsing.proofs.Grouped.{first-pass}
use Rattle.driver.specs.declared.Driven.{Driven}
use Rattle.driver.specs.Outcome.{Outcome, refused, drive_outcome}
use Rattle.driver.proofs.Drives.{NoneMust, none_must_remain_in}
use Rattle.folding.specs.CollapseAll.{driver_number, collapse_all_outcome}

module _ (l : Lent) (letters : List ℕ) (c : Counts) (u : Used) (protected : List ℕ) where
  abbrev NoneLeft : Outcome → Type 0
  NoneLeft o = NoneMust protected (graph_of o.arrays.nodes letters o.arrays.links o.answer.counts)

  pub none_must_remain : (collapse_all_outcome l letters c u protected).answer.number ≡ 0 → NoneLeft (collapse_all_outcome l letters c u protected)
  unfolding collapse_all_outcome
  none_must_remain z = by (eqb (driver_number l letters c u protected) 0) refl z
    where
      by : (b : Bool) → eqb (driver_number l letters c u protected) 0 ≡ b → let o = cond (not b) (refused (driver_number l letters c u protected) c u l) (drive_outcome l letters c u protected) in o.answer.number ≡ 0 → NoneLeft o
      by true e q =
          let n = (first-pass (state_number l letters c u) _ (eqb-true (driver_number l letters c u protected) 0 e)).0 in
          none_must_remain_in l letters c u protected (state-zero l letters c u n) q
      by false e q = absurd (eqb-false (driver_number l letters c u protected) 0 e q)

-- 1 is A, 2 is ACG, 3 is ACT; 1+ to 2+, 1+ to 3+; room for two nodes and three links more. The event list has some rules: the
-- first, were it there, would rewrite (2,3) to itself
abbrev all_of : ℕ → ℕ → List ℕ → Driven
all_of mark rules protected =
    (collapse_all_outcome
    (lent (1 ∷ 0 ∷ 1 ∷ 0 ∷ 2 ∷ 1 ∷ 3 ∷ 0 ∷ 3 ∷ 4 ∷ 3 ∷ mark ∷ 0 ∷ 0 ∷ 0 ∷ 0 ∷ 0 ∷ 0 ∷ 0 ∷ 0 ∷ [])
    (2 ∷ 4 ∷ 0 ∷ 2 ∷ 6 ∷ 0 ∷ 0 ∷ 0 ∷ 0 ∷ 0 ∷ 0 ∷ 0 ∷ 0 ∷ 0 ∷ 0 ∷ [])
    (2 ∷ 3 ∷ 0 ∷ 1 ∷ 0 ∷ 0 ∷ 0 ∷ 0 ∷ []) (4 ∷ 3 ∷ 0 ∷ 0 ∷ 0 ∷ 0 ∷ 0 ∷ 0 ∷ []))
    (65 ∷ 65 ∷ 67 ∷ 71 ∷ 65 ∷ 67 ∷ 84 ∷ []) (record { nodes = 3; letters = 7; links = 2 }) (record { rules = rules; steps = rules }) protected
    ).answer

c8 : all_of 0 0 [] ≡ record { number = 0; made = 1; counts = record { nodes = 5; letters = 7; links = 5 }; used = record { rules = 2; steps = 4 } }
unfolding collapse_all_outcome flip written before complement_of upper_of is_base is_letter
c8 = refl

-- a mark out of range before a protected id twice, that before one that no node has, that before the list
refuses : ((all_of 2 1 (7 ∷ 7 ∷ [])).number ≡ 13) × ((all_of 0 1 (7 ∷ 7 ∷ [])).number ≡ 5) × ((all_of 0 1 (7 ∷ [])).number ≡ 6) × ((all_of 0 1 []).number ≡ 12)
unfolding collapse_all_outcome flip written before complement_of upper_of is_base is_letter
refuses = (refl, refl, refl, refl)
