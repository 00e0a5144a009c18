use Prim.Native.Nat.{ℕ, ◌+◌, ◌*◌, ◌≤◌}
use mathlib.Core.Path.{◌≡◌, sym, ap, ◌∙◌}
use mathlib.Core.Bool.{true, false}
use mathlib.Core.List.{[], List, ◌∷◌}
use native.Mathlib.Omega.{arith}
use borrow.Author.Rules.{rules}
use lib.ListN.{get_or}
use Rattle.handle.specs.declared.Handle.{Handle}
use Rattle.handle.specs.Handle.{id_of, dir_of}
use Rattle.store.specs.declared.Counts.{Counts}
use Rattle.store.specs.Graph.{nodes_of, graph_of}
use Rattle.store.specs.Views.{len_of}
use Rattle.events.specs.declared.Used.{Used}
use Rattle.events.specs.Events.{rule, rules_of, steps_of, list_of}
use Rattle.events.specs.declared.Rule.{Rule}
use Rattle.events.specs.WellFormed.{table_formed}
use Rattle.events.proofs.Says.{table-room}
use Rattle.rewriting.specs.Rewriting.{ruled, nodes_on, transform_node}
use Rattle.rewriting.specs.Measure.{towards}
use Rattle.rewriting.proofs.Tables.{RuleFound, rule_found, rule_nowhere, looked_up, steps-inside}
use Rattle.rewriting.proofs.Images.{no_rule, by_rule}
use Rattle.drawing.proofs.Drawing.{drawn_is}
use Rattle.drawing.proofs.image.add_node.Goals as goal

-- what stands for the step
module _ (nodes rules steps : List ℕ) (c : Counts) (u : Used) (h : Handle) where
  abbrev image : List Handle
  image = transform_node (graph_of nodes [] [] c) (list_of rules steps u) h

  abbrev len : ℕ
  len = len_of (graph_of nodes [] [] c) (id_of h)

  -- the step itself, where there is no rule
  alone : ruled (id_of h) len (rules_of u.rules rules) ≡ false → h ∷ [] ≡ image
  alone f = sym (no_rule (graph_of nodes [] [] c) (list_of rules steps u) h f)

  -- the walk of the rule in slot i
  module _ (i : ℕ) (f : RuleFound u.rules rules (id_of h) len i) where
    inside : table_formed rules steps u ≡ true → get_or rules (4 * i + 2) 0 + get_or rules (4 * i + 3) 0 ≤ u.steps
    inside ok = rw f.here at (steps-inside rules steps u ok (id_of h) len)

    walk : (d : ℕ) → d ≡ dir_of h → towards d (nodes_on (steps_of u.steps steps) (rule 0 0 (get_or rules (4 * i + 2) 0) (get_or rules (4 * i + 3) 0))) ≡ image
    walk d e =
        ap (λ (x : ℕ). towards x (nodes_on (steps_of u.steps steps) (rule 0 0 (get_or rules (4 * i + 2) 0) (get_or rules (4 * i + 3) 0)))) e
        ∙ sym (by_rule (graph_of nodes [] [] c) (list_of rules steps u) h f.is_ruled ∙ ap (λ (r : Rule). towards (dir_of h) (nodes_on (steps_of u.steps steps) r)) f.here)

pub find_rule-requires : goal.find_rule-requires
find_rule-requires c =
    let a = c.args in
    omega (arith, (table-room a.rules.now a.steps.now a.u c.requires.nodes_in_bounds.1).rule_room)

pub returns-in_default : goal.returns-in_default
returns-in_default c =
    let nowhere : c.args.h ∷ [] ≡ image c.args.nodes.now c.args.rules.now c.args.steps.now c.args.c c.args.u c.args.h =
    let a = c.args in
    alone a.nodes.now a.rules.now a.steps.now a.c a.u a.h (rule_nowhere (id_of a.h) (len a.nodes.now a.rules.now a.steps.now a.c a.u a.h) (rules_of a.u.rules a.rules.now) (looked_up (nodes_of a.c.nodes a.nodes.now) (rules_of a.u.rules a.rules.now) a.h c.id-id.result c.node_len-len.result c.id-id.ensures c.node_len-len.ensures (sym c.in_default.is ∙ c.find_rule.ensures.value)))
    in
    drawn_is (nowhere) c.add_step.ensures

pub add_image-requires : goal.add_image-requires
add_image-requires c =
    let found : RuleFound c.args.u.rules c.args.rules.now (id_of c.args.h) (len c.args.nodes.now c.args.rules.now c.args.steps.now c.args.c c.args.u c.args.h) c.in-Some.i =
    let a = c.args in
    rule_found a.u.rules a.rules.now (id_of a.h) (len a.nodes.now a.rules.now a.steps.now a.c a.u a.h) c.in-Some.i (looked_up (nodes_of a.c.nodes a.nodes.now) (rules_of a.u.rules a.rules.now) a.h c.id-id.result c.node_len-len.result c.id-id.ensures c.node_len-len.ensures (sym c.in-Some.is ∙ c.find_rule.ensures.value))
    in
    let a = c.args in
    rw c.at-r.ensures (record { total_in_bounds = ((table-room a.rules.now a.steps.now a.u c.requires.nodes_in_bounds.1).step_room, inside a.nodes.now a.rules.now a.steps.now a.c a.u a.h c.in-Some.i (found) c.requires.nodes_in_bounds.1); fact = search rules })

pub returns : goal.returns
returns c =
    let found : RuleFound c.args.u.rules c.args.rules.now (id_of c.args.h) (len c.args.nodes.now c.args.rules.now c.args.steps.now c.args.c c.args.u c.args.h) c.in-Some.i =
    let a = c.args in
    rule_found a.u.rules a.rules.now (id_of a.h) (len a.nodes.now a.rules.now a.steps.now a.c a.u a.h) c.in-Some.i (looked_up (nodes_of a.c.nodes a.nodes.now) (rules_of a.u.rules a.rules.now) a.h c.id-id.result c.node_len-len.result c.id-id.ensures c.node_len-len.ensures (sym c.in-Some.is ∙ c.find_rule.ensures.value))
    in
    let a = c.args in
    drawn_is (walk a.nodes.now a.rules.now a.steps.now a.c a.u a.h c.in-Some.i (found) c.direction.result c.direction.ensures) (rw c.at-r.ensures at c.add_image.ensures)
