use Prim.Native.Nat.{ℕ, ◌+◌, ◌*◌, ◌≤◌}
use mathlib.Core.Path.{◌≡◌, refl, sym, ap, ◌∙◌, subst}
use mathlib.Core.Bool.{true, false}
use mathlib.Core.List.{[], List, ◌∷◌}
use native.Mathlib.Omega.{arith}
use lib.ListN.{length, get_or, set}
use Rattle.kit.specs.Put.{Put}
use Rattle.handle.specs.declared.Handle.{Handle}
use Rattle.handle.specs.Handle.{id_of, dir_of}
use Rattle.store.specs.declared.Counts.{Counts}
use Rattle.store.specs.Graph.{handle, nodes_of, graph_of}
use Rattle.store.specs.Views.{len_of}
use Rattle.groups.specs.Groups.{numbers}
use Rattle.events.specs.declared.Used.{Used}
use Rattle.events.specs.Events.{rule, rules_of, steps_of, list_of}
use Rattle.events.specs.declared.Rule.{Rule}
use Rattle.events.specs.WellFormed.{table_formed}
use Rattle.events.proofs.Says.{table-room}
use Rattle.rewriting.specs.Rewriting.{ruled, nodes_on, transform_node}
use Rattle.rewriting.specs.Measure.{towards}
use Rattle.rewriting.proofs.Tables.{RuleFound, rule_found, rule_nowhere, looked_up, steps-inside}
use Rattle.rewriting.proofs.Images.{no_rule, by_rule, length-new}
use Rattle.rewriting.proofs.transform_node.Goals as goal

-- what stands for the step
module _ (nodes rules steps : List ℕ) (c : Counts) (u : Used) (step : ℕ) where
  abbrev image : List Handle
  image = transform_node (graph_of nodes [] [] c) (list_of rules steps u) (handle step)

  abbrev len : ℕ
  len = len_of (graph_of nodes [] [] c) (id_of (handle step))

  -- the step itself, where there is no rule
  alone : ruled (id_of (handle step)) len (rules_of u.rules rules) ≡ false → image ≡ handle step ∷ []
  alone f = no_rule (graph_of nodes [] [] c) (list_of rules steps u) (handle step) f

  put_alone : (at : ℕ) (out : List ℕ) → image ≡ handle step ∷ [] → Put out at (numbers image) (set out at step) (at + 1)
  put_alone at out e =
      subst (λ (x : List Handle). Put out at (numbers x) (set out at step) (at + 1)) (sym e) (record { place = refl; bytes = refl })

  -- the walk of the rule in slot i
  module _ (ok : table_formed rules steps u ≡ true) (i : ℕ) (f : RuleFound u.rules rules (id_of (handle step)) len i) where
    inside : get_or rules (4 * i + 2) 0 + get_or rules (4 * i + 3) 0 ≤ u.steps
    inside = rw f.here at (steps-inside rules steps u ok (id_of (handle step)) len)

    size : length image ≡ get_or rules (4 * i + 3) 0
    size = length-new nodes rules steps c u ok (handle step) ∙ rw (f.is_ruled, f.here)

    walk : image ≡ towards (dir_of (handle step)) (nodes_on (steps_of u.steps steps) (rule 0 0 (get_or rules (4 * i + 2) 0) (get_or rules (4 * i + 3) 0)))
    walk =
        by_rule (graph_of nodes [] [] c) (list_of rules steps u) (handle step) f.is_ruled
        ∙ ap (λ (r : Rule). towards (dir_of (handle step)) (nodes_on (steps_of u.steps steps) r)) f.here

    written : (d : ℕ) → d ≡ dir_of (handle step) → {at next : ℕ} {out m : List ℕ} → Put out at (numbers (towards d (nodes_on (steps_of u.steps steps) (rule 0 0 (get_or rules (4 * i + 2) 0) (get_or rules (4 * i + 3) 0))))) m next → Put out at (numbers image) m next
    written d e {at} {next} {out} {m} p =
        let on = nodes_on (steps_of u.steps steps) (rule 0 0 (get_or rules (4 * i + 2) 0) (get_or rules (4 * i + 3) 0)) in
        subst (λ (x : List Handle). Put out at (numbers x) m next) (ap (λ (x : ℕ). towards x on) e ∙ sym walk) p

pub find_rule-requires : goal.find_rule-requires
find_rule-requires c =
    let a = c.args in
    omega (arith, (table-room a.rules.now a.steps.now a.u c.requires.nodes_in_bounds.1).rule_room)

pub returns-in_default : goal.returns-in_default
returns-in_default c =
    let nowhere : image c.args.nodes.now c.args.rules.now c.args.steps.now c.args.c c.args.u c.args.step ≡ handle c.args.step ∷ [] =
    let a = c.args in
    alone a.nodes.now a.rules.now a.steps.now a.c a.u a.step (rule_nowhere (id_of (handle a.step)) (len a.nodes.now a.rules.now a.steps.now a.c a.u a.step) (rules_of a.u.rules a.rules.now) (looked_up (nodes_of a.c.nodes a.nodes.now) (rules_of a.u.rules a.rules.now) (handle a.step) c.id-id.result c.node_len-len.result c.id-id.ensures c.node_len-len.ensures (sym c.in_default.is ∙ c.find_rule.ensures.value)))
    in
    let a = c.args in
    put_alone a.nodes.now a.rules.now a.steps.now a.c a.u a.step a.at a.out.now (nowhere)

pub bounds-out-at : goal.bounds-out-at
bounds-out-at c =
    let nowhere : image c.args.nodes.now c.args.rules.now c.args.steps.now c.args.c c.args.u c.args.step ≡ handle c.args.step ∷ [] =
    let a = c.args in
    alone a.nodes.now a.rules.now a.steps.now a.c a.u a.step (rule_nowhere (id_of (handle a.step)) (len a.nodes.now a.rules.now a.steps.now a.c a.u a.step) (rules_of a.u.rules a.rules.now) (looked_up (nodes_of a.c.nodes a.nodes.now) (rules_of a.u.rules a.rules.now) (handle a.step) c.id-id.result c.node_len-len.result c.id-id.ensures c.node_len-len.ensures (sym c.in_default.is ∙ c.find_rule.ensures.value)))
    in
    omega (arith, ap length (nowhere), c.requires.step_in_bounds)

pub put_image-requires : goal.put_image-requires
put_image-requires c =
    let found : RuleFound c.args.u.rules c.args.rules.now (id_of (handle c.args.step)) (len c.args.nodes.now c.args.rules.now c.args.steps.now c.args.c c.args.u c.args.step) c.in-Some.i =
    let a = c.args in
    rule_found a.u.rules a.rules.now (id_of (handle a.step)) (len a.nodes.now a.rules.now a.steps.now a.c a.u a.step) c.in-Some.i (looked_up (nodes_of a.c.nodes a.nodes.now) (rules_of a.u.rules a.rules.now) (handle a.step) c.id-id.result c.node_len-len.result c.id-id.ensures c.node_len-len.ensures (sym c.in-Some.is ∙ c.find_rule.ensures.value))
    in
    let a = c.args in
    let ok = c.requires.nodes_in_bounds.1 in
    let k = c.in-Some.i in
    rw c.at-r.ensures ((table-room a.rules.now a.steps.now a.u ok).step_room, inside a.nodes.now a.rules.now a.steps.now a.c a.u a.step ok k (found), omega (arith, size a.nodes.now a.rules.now a.steps.now a.c a.u a.step ok k (found), c.requires.step_in_bounds))

pub returns : goal.returns
returns c =
    let found : RuleFound c.args.u.rules c.args.rules.now (id_of (handle c.args.step)) (len c.args.nodes.now c.args.rules.now c.args.steps.now c.args.c c.args.u c.args.step) c.in-Some.i =
    let a = c.args in
    rule_found a.u.rules a.rules.now (id_of (handle a.step)) (len a.nodes.now a.rules.now a.steps.now a.c a.u a.step) c.in-Some.i (looked_up (nodes_of a.c.nodes a.nodes.now) (rules_of a.u.rules a.rules.now) (handle a.step) c.id-id.result c.node_len-len.result c.id-id.ensures c.node_len-len.ensures (sym c.in-Some.is ∙ c.find_rule.ensures.value))
    in
    let a = c.args in
    let m = rw c.at-r.ensures at c.put_image.ensures in
    written a.nodes.now a.rules.now a.steps.now a.c a.u a.step c.requires.nodes_in_bounds.1 c.in-Some.i (found) c.direction.result c.direction.ensures m
