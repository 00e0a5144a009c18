-- The graphs and the table of C8; 20 to 25 on them, each with its places.
use Prim.Native.Nat.{ℕ}
use mathlib.Core.Path.{◌≡◌, refl}
use mathlib.Core.List.{List, [], ◌∷◌}
use Rattle.letters.specs.Letters.{complement_of, upper_of, is_base, is_letter}
use Rattle.handle.specs.Handle.{pack, flip}
use Rattle.handle.specs.Edge.{edge}
use Rattle.store.specs.Graph.{Graph, node, link}
use Rattle.store.specs.declared.Link.{Link}
use Rattle.events.specs.Events.{rule, step}
use Rattle.events.specs.declared.Rule.{Rule}
use Rattle.events.specs.declared.Step.{Step}
use Rattle.scanning.specs.declared.Verdict.{Verdict}
use Rattle.scanning.specs.Rules.{verdict, rules_fault}

abbrev pub letters : List ℕ
letters = 65 ∷ 65 ∷ 67 ∷ 71 ∷ 65 ∷ 67 ∷ 84 ∷ []

-- 1 is A, 2 is ACG, 3 is ACT; 1+ to 2+, 1+ to 3+, and more links
abbrev pub old : List Link → Graph
old more =
    record {
      nodes = node 1 0 1 0 ∷ node 2 1 3 0 ∷ node 3 4 3 0 ∷ [];
      letters = letters;
      links = link (edge (pack 1 0) (pack 2 0)) 0 ∷ link (edge (pack 1 0) (pack 3 0)) 0 ∷ more;
    }

-- 1 is A, 2 is AC, 4 is G, 5 is T; 1+ to 2+, 2+ to 4+, 2+ to 5+
abbrev pub new : Graph
new =
    record {
      nodes = node 1 0 1 0 ∷ node 2 1 2 0 ∷ node 4 3 1 0 ∷ node 5 6 1 0 ∷ [];
      letters = letters;
      links = link (edge (pack 1 0) (pack 2 0)) 0 ∷ link (edge (pack 2 0) (pack 4 0)) 0 ∷ link (edge (pack 2 0) (pack 5 0)) 0 ∷ [];
    }

abbrev pub steps : List Step
steps = step 4 2 ∷ step 8 1 ∷ step 4 2 ∷ step 10 1 ∷ []

abbrev pub both : List Rule
both = rule 2 3 0 2 ∷ rule 3 3 2 2 ∷ []

abbrev scanned : List Step → List Rule → Verdict
scanned ss rs = rules_fault (old []) new ss 0 rs

-- >2>4 and >2>5, as they stand
fine : scanned steps both ≡ verdict 0 0 0
unfolding flip complement_of upper_of is_base is_letter
fine = refl

-- the second rule without steps
no_steps : scanned steps (rule 2 3 0 2 ∷ rule 3 3 2 0 ∷ []) ≡ verdict 20 1 0
unfolding flip complement_of upper_of is_base is_letter
no_steps = refl

-- no node 9; 4 recorded as two letters; no link 2+ to 2+
by_step : (scanned (step 4 2 ∷ step 18 1 ∷ []) (rule 2 3 0 2 ∷ []) ≡ verdict 21 0 1) × (scanned (step 4 2 ∷ step 8 2 ∷ []) (rule 2 3 0 2 ∷ []) ≡ verdict 22 0 1) × (scanned (step 4 2 ∷ step 4 2 ∷ []) (rule 2 3 0 2 ∷ []) ≡ verdict 23 0 1)
unfolding flip complement_of upper_of is_base is_letter
by_step = (refl, refl, refl)

-- a key of four letters is no old node, but its lengths are 3
sums : scanned steps (rule 2 4 0 2 ∷ []) ≡ verdict 24 0 0
unfolding flip complement_of upper_of is_base is_letter
sums = refl

-- 2 as <4<2, with true lengths: CGT, not ACG; and 25 of the first rule comes before 20 of the second
spelling : (scanned (step 9 1 ∷ step 5 2 ∷ []) (rule 2 3 0 2 ∷ []) ≡ verdict 25 0 0) × (scanned steps (rule 2 3 2 2 ∷ rule 3 3 0 0 ∷ []) ≡ verdict 25 0 0)
unfolding flip complement_of upper_of is_base is_letter
spelling = (refl, refl)
