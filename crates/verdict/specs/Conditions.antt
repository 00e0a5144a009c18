-- The eight conditions, in their order: 01 "The eight conditions". 1 to 4 stand in scanning (Rules), 5 and 6 in keeping (Kept), 7
-- here, 8 in gfaffix (CheckTransform).
use Rattle.std.specs.Prelude.{ℕ, ◌+◌, Bool, true, cond, not, ◌&&◌, List, [], ◌∷◌, ◌++◌, map, eqb}
use Rattle.kit.specs.Loops.{any}
use Rattle.handle.specs.Handle.{id_of}
use Rattle.store.specs.Graph.{Graph}
use Rattle.store.specs.Order.{written_order}
use Rattle.store.specs.Views.{len_of}
use Rattle.events.specs.Events.{Rules}
use Rattle.rewriting.specs.Rewriting.{ruled, rule_under, nodes_on}
use Rattle.scanning.specs.declared.Verdict.{Verdict}
use Rattle.scanning.specs.Rules.{verdict, or_then, unless, rules_fault}
use Rattle.keeping.specs.Kept.{old_nodes, nodes_fault, links_fault}

-- 7: no new node stands twice in the walks of protected nodes that have rules under their length
abbrev pub protected_ids : Graph → Rules → ℕ → List ℕ
protected_ids old t id =
    cond (ruled id (len_of old id) t.rules) (map id_of (nodes_on t.steps (rule_under id (len_of old id) t.rules))) []

abbrev pub no_repeat : List ℕ → List ℕ → Bool
no_repeat seen [] = true
no_repeat seen (id ∷ ids) = not (any (eqb id) seen) && no_repeat (seen ++ (id ∷ [])) ids

-- in list order; `seen` are the nodes of the walks before
abbrev pub protected_fault : Graph → Rules → ℕ → List ℕ → List ℕ → Verdict
protected_fault old t i seen [] = verdict 0 0 0
protected_fault old t i seen (id ∷ ids) =
    or_then (unless (no_repeat seen (protected_ids old t id)) 28 i 0)
    (protected_fault old t (i + 1) (seen ++ protected_ids old t id) ids)

-- 1 to 7, in this order
abbrev pub conditions_fault : Graph → Graph → Rules → List ℕ → Verdict
conditions_fault old new t protected =
    or_then (rules_fault old new t.steps 0 t.rules)
    (or_then (nodes_fault old new t (old_nodes old))
    (or_then (links_fault old new t 0 (written_order old.links))
    (protected_fault old t 0 [] protected)))
