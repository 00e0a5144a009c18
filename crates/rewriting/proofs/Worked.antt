-- 01 "Checked by hand", C6 and C7; a rule is found by its id and length together; a rule without steps; a step without a rule.
use mathlib.Core.Path.{◌≡◌, refl}
use mathlib.Core.List.{[], ◌∷◌}
use Rattle.handle.specs.Handle.{pack, flip}
use Rattle.store.specs.Graph.{Graph, node}
use Rattle.events.specs.Events.{Rules, rule, step}
use Rattle.rewriting.specs.Rewriting.{transform_node, transform_walk}

-- 2 has three letters, 5 has two, 6 and 9 have one
abbrev g : Graph
g = record { nodes = node 2 0 3 0 ∷ node 5 3 2 0 ∷ node 6 5 1 0 ∷ node 9 6 1 0 ∷ []; letters = []; links = [] }

-- (2,3) as >2>4, (5,2) as >7<8, (9,2) as >1, and (6,1) without steps
abbrev t : Rules
t =
    record {
      rules = rule 2 3 0 2 ∷ rule 5 2 2 2 ∷ rule 9 2 4 1 ∷ rule 6 1 0 0 ∷ [];
      steps = step 4 2 ∷ step 8 1 ∷ step 14 1 ∷ step 17 1 ∷ step 2 2 ∷ [];
    }

-- rule 2 as >2>4, step 2-: <4<2
pub C6 : transform_node g t (pack 2 1) ≡ pack 4 1 ∷ pack 2 1 ∷ []
unfolding flip
C6 = refl

-- rule 5 as >7<8, step 5-: >8<7
pub C7 : transform_node g t (pack 5 1) ≡ pack 8 0 ∷ pack 7 1 ∷ []
unfolding flip
C7 = refl

-- 9 of one letter has no rule, 6 gives nothing, and >2 is not rewritten again
walked : transform_walk g t (pack 9 1 ∷ pack 6 0 ∷ pack 2 0 ∷ pack 5 0 ∷ []) ≡ pack 9 1 ∷ pack 2 0 ∷ pack 4 0 ∷ pack 7 0 ∷ pack 8 1 ∷ []
unfolding flip
walked = refl
