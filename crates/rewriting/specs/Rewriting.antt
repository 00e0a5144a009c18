-- Rewriting a walk by a table: 01 "Prefix, groups, collapse", last paragraph.
use Rattle.std.specs.Prelude.{ℕ, Bool, cond, not, List, [], ◌∷◌, map, eqb}
use Rattle.kit.specs.Loops.{any, first_or, lines}
use Rattle.handle.specs.declared.Handle.{Handle}
use Rattle.handle.specs.Handle.{id_of, dir_of, pack}
use Rattle.store.specs.declared.Counts.{Counts}
use Rattle.store.specs.Graph.{Graph, nodes_of}
use Rattle.store.specs.Views.{len_of}
use Rattle.formed.specs.WellFormed.{old_formed, ids_once}
use Rattle.events.specs.declared.Used.{Used}
use Rattle.events.specs.Events.{Rules, rule, rules_of, walk_of, keyed}
use Rattle.events.specs.declared.Rule.{Rule}
use Rattle.events.specs.declared.Step.{Step}
use Rattle.events.specs.WellFormed.{table_formed, keys_once}
use Rattle.spelling.specs.Spelling.{turn_walk}

-- there is a rule under this key; the first one
abbrev pub ruled : ℕ → ℕ → List Rule → Bool
ruled id len rs = any (keyed id len) rs

abbrev pub rule_under : ℕ → ℕ → List Rule → Rule
rule_under id len rs = first_or (rule 0 0 0 0) (keyed id len) rs

-- the oriented nodes of a rule's walk
abbrev pub nodes_on : List Step → Rule → List Handle
nodes_on steps r = map (λ s. s.node) (walk_of steps r)

-- a node read forward: the walk of the rule under its id and length, or the node itself where there is no such rule
abbrev pub image_of : Rules → ℕ → ℕ → List Handle
image_of t id len = cond (ruled id len t.rules) (nodes_on t.steps (rule_under id len t.rules)) (pack id 0 ∷ [])

-- a step's image: by its id and old length, reversed and flipped for a reversed step
abbrev pub transform_node : Graph → Rules → Handle → List Handle
transform_node g t h =
    cond (eqb (dir_of h) 0) (image_of t (id_of h) (len_of g (id_of h))) (turn_walk (image_of t (id_of h) (len_of g (id_of h))))

-- each step's image in its place, once and not again
abbrev pub transform_walk : Graph → Rules → List Handle → List Handle
transform_walk g t hs = lines (transform_node g t) hs

-- an old graph and a table that come together: 13 of either, then 5 of either, else 0
abbrev pub old_number : List ℕ → List ℕ → List ℕ → Counts → List ℕ → List ℕ → Used → ℕ
old_number nodes letters links c rules steps u =
    cond (not (old_formed nodes letters links c)) 13
    (cond (not (table_formed rules steps u)) 13
    (cond (not (ids_once (nodes_of c.nodes nodes))) 5
    (cond (not (keys_once (rules_of u.rules rules))) 5
    0)))
