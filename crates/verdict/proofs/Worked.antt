-- C8 to C12 and C15, on the graphs and the table of C8.
use mathlib.Core.Path.{◌≡◌, refl}
use mathlib.Core.List.{List, [], ◌∷◌}
use Rattle.letters.specs.Letters.{complement_of, upper_of, is_base, is_letter}
use Rattle.handle.specs.Handle.{pack, flip, before}
use Rattle.handle.specs.Edge.{edge, written, edge_before}
use Rattle.store.specs.Graph.{link}
use Rattle.events.specs.Events.{Rules, rule, step}
use Rattle.events.specs.declared.Rule.{Rule}
use Rattle.events.specs.declared.Step.{Step}
use Rattle.scanning.specs.Rules.{verdict}
use Rattle.scanning.proofs.Worked.{old, new, steps, both}
use Rattle.verdict.specs.Conditions.{conditions_fault}

abbrev pub table : List Rule → List Step → Rules
table rules ss = record { rules = rules; steps = ss }

c8 : conditions_fault (old []) new (table both steps) [] ≡ verdict 0 0 0
unfolding flip written before edge_before complement_of upper_of is_base is_letter
c8 = refl

c9 : conditions_fault (old []) new (table (rule 2 3 0 2 ∷ rule 3 3 0 2 ∷ []) steps) [] ≡ verdict 25 1 0
unfolding flip written before edge_before complement_of upper_of is_base is_letter
c9 = refl

c10 : conditions_fault (old []) new (table both (step 4 1 ∷ step 8 2 ∷ step 4 2 ∷ step 10 1 ∷ [])) [] ≡ verdict 22 0 0
unfolding flip written before edge_before complement_of upper_of is_base is_letter
c10 = refl

c11 : conditions_fault (old []) new (table (rule 2 3 0 2 ∷ []) steps) [] ≡ verdict 26 3 0
unfolding flip written before edge_before complement_of upper_of is_base is_letter
c11 = refl

c12 : conditions_fault (old (link (edge (pack 2 0) (pack 3 1)) 0 ∷ [])) new (table both steps) [] ≡ verdict 27 2 0
unfolding flip written before edge_before complement_of upper_of is_base is_letter
c12 = refl

c15 : conditions_fault (old []) new (table both steps) (2 ∷ 3 ∷ []) ≡ verdict 28 1 0
unfolding flip written before edge_before complement_of upper_of is_base is_letter
c15 = refl
