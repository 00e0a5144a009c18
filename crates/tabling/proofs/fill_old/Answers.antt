use mathlib.Core.List.{[]}
use Prim.Native.Nat.{ℕ, ◌+◌, ◌*◌, ◌≤◌}
use mathlib.Core.Path.{◌≡◌, sym, ap, ◌∙◌}
use lib.ListN.{get_or}
use Rattle.handle.specs.Handle.{id_of}
use Rattle.store.specs.Graph.{nodes_of, graph_of}
use Rattle.store.specs.Views.{len_of, node_named}
use Rattle.events.specs.Events.{rule, rules_of, steps_of, list_of}
use Rattle.events.proofs.Fields.{rule_at}
use Rattle.events.proofs.Says.{table-room}
use Rattle.rewriting.specs.Rewriting.{nodes_on, transform_node}
use Rattle.rewriting.proofs.Tables.{RuleFound, rule_found, rule_nowhere, looked_up, steps-inside}
use Rattle.writing.proofs.Filling.{nothing_filled}
use Rattle.tabling.proofs.Rows.{row-alone, image_by, row_itself, row_fits, row-filled}
use Rattle.tabling.proofs.fill_old.Goals as goal

pub find_rule-requires : goal.find_rule-requires
find_rule-requires c =
    let a = c.args in
    (table-room a.rules.now a.steps.now a.u c.requires.nodes_in_bounds.1).rule_room

pub returns-in_default : goal.returns-in_default
returns-in_default c =
    let a = c.args in
    nothing_filled a.out.now a.at (row-alone (graph_of a.nodes.now [] [] a.c) (list_of a.rules.now a.steps.now a.u) a.h (rule_nowhere (id_of a.h) (len_of (graph_of a.nodes.now [] [] a.c) (id_of a.h)) (rules_of a.u.rules a.rules.now) (looked_up (nodes_of a.c.nodes a.nodes.now) (rules_of a.u.rules a.rules.now) a.h c.id-id.result c.node_len-len.result c.id-id.ensures c.node_len-len.ensures (sym c.in_default.is ∙ c.find_rule.ensures.value))))

pub just_itself-requires : goal.just_itself-requires
just_itself-requires c =
    let found : RuleFound c.args.u.rules c.args.rules.now (id_of c.args.h) (len_of (graph_of c.args.nodes.now [] [] c.args.c) (id_of c.args.h)) c.in-Some.i =
    let a = c.args in
    rule_found a.u.rules a.rules.now (id_of a.h) (len_of (graph_of a.nodes.now [] [] a.c) (id_of a.h)) c.in-Some.i (looked_up (nodes_of a.c.nodes a.nodes.now) (rules_of a.u.rules a.rules.now) a.h c.id-id.result c.node_len-len.result c.id-id.ensures c.node_len-len.ensures (sym c.in-Some.is ∙ c.find_rule.ensures.value))
    in
    let inside : get_or c.args.rules.now (4 * c.in-Some.i + 2) 0 + get_or c.args.rules.now (4 * c.in-Some.i + 3) 0 ≤ c.args.u.steps =
    let a = c.args in
    rw (found).here at (steps-inside a.rules.now a.steps.now a.u c.requires.nodes_in_bounds.1 (id_of a.h) (len_of (graph_of a.nodes.now [] [] a.c) (id_of a.h)))
    in
    let a = c.args in
    rw c.at-r.ensures ((table-room a.rules.now a.steps.now a.u c.requires.nodes_in_bounds.1).step_room, inside)

pub returns-then-just_itself : goal.returns-then-just_itself
returns-then-just_itself c =
    let found : RuleFound c.args.u.rules c.args.rules.now (id_of c.args.h) (len_of (graph_of c.args.nodes.now [] [] c.args.c) (id_of c.args.h)) c.in-Some.i =
    let a = c.args in
    rule_found a.u.rules a.rules.now (id_of a.h) (len_of (graph_of a.nodes.now [] [] a.c) (id_of a.h)) c.in-Some.i (looked_up (nodes_of a.c.nodes a.nodes.now) (rules_of a.u.rules a.rules.now) a.h c.id-id.result c.node_len-len.result c.id-id.ensures c.node_len-len.ensures (sym c.in-Some.is ∙ c.find_rule.ensures.value))
    in
    let walk : transform_node (graph_of c.args.nodes.now [] [] c.args.c) (list_of c.args.rules.now c.args.steps.now c.args.u) c.args.h ≡ nodes_on (steps_of c.args.u.steps c.args.steps.now) (rule 0 0 (get_or c.args.rules.now (4 * c.in-Some.i + 2) 0) (get_or c.args.rules.now (4 * c.in-Some.i + 3) 0)) =
    let a = c.args in
    image_by (graph_of a.nodes.now [] [] a.c) (list_of a.rules.now a.steps.now a.u) a.h c.requires.nodes_in_bounds.2 (found).is_ruled (rule_at a.rules.now c.in-Some.i) (found).here
    in
    let a = c.args in
    nothing_filled a.out.now a.at (row_itself (graph_of a.nodes.now [] [] a.c) (list_of a.rules.now a.steps.now a.u) a.h _ (walk) (sym (rw c.at-r.ensures at c.just_itself.ensures) ∙ c.if-just_itself.true))

pub fill_row-requires : goal.fill_row-requires
fill_row-requires c =
    let found : RuleFound c.args.u.rules c.args.rules.now (id_of c.args.h) (len_of (graph_of c.args.nodes.now [] [] c.args.c) (id_of c.args.h)) c.in-Some.i =
    let a = c.args in
    rule_found a.u.rules a.rules.now (id_of a.h) (len_of (graph_of a.nodes.now [] [] a.c) (id_of a.h)) c.in-Some.i (looked_up (nodes_of a.c.nodes a.nodes.now) (rules_of a.u.rules a.rules.now) a.h c.id-id.result c.node_len-len.result c.id-id.ensures c.node_len-len.ensures (sym c.in-Some.is ∙ c.find_rule.ensures.value))
    in
    let inside : get_or c.args.rules.now (4 * c.in-Some.i + 2) 0 + get_or c.args.rules.now (4 * c.in-Some.i + 3) 0 ≤ c.args.u.steps =
    let a = c.args in
    rw (found).here at (steps-inside a.rules.now a.steps.now a.u c.requires.nodes_in_bounds.1 (id_of a.h) (len_of (graph_of a.nodes.now [] [] a.c) (id_of a.h)))
    in
    let walk : transform_node (graph_of c.args.nodes.now [] [] c.args.c) (list_of c.args.rules.now c.args.steps.now c.args.u) c.args.h ≡ nodes_on (steps_of c.args.u.steps c.args.steps.now) (rule 0 0 (get_or c.args.rules.now (4 * c.in-Some.i + 2) 0) (get_or c.args.rules.now (4 * c.in-Some.i + 3) 0)) =
    let a = c.args in
    image_by (graph_of a.nodes.now [] [] a.c) (list_of a.rules.now a.steps.now a.u) a.h c.requires.nodes_in_bounds.2 (found).is_ruled (rule_at a.rules.now c.in-Some.i) (found).here
    in
    let len_is : c.node_len-len.result ≡ (len_of (graph_of c.args.nodes.now [] [] c.args.c) (id_of c.args.h)) =
    let a = c.args in
    c.node_len-len.ensures ∙ ap (λ (n : ℕ). (node_named n (nodes_of a.c.nodes a.nodes.now)).len) c.id-id.ensures
    in
    let a = c.args in
    rw c.at-r.ensures (record { total_in_bounds = ((table-room a.rules.now a.steps.now a.u c.requires.nodes_in_bounds.1).step_room, inside); len_bound = row_fits (graph_of a.nodes.now [] [] a.c) (list_of a.rules.now a.steps.now a.u) a.h _ (walk) (sym (rw c.at-r.ensures at c.just_itself.ensures) ∙ c.if-just_itself.false) a.at c.id-id.result c.node_len-len.result c.id-id.ensures (len_is) c.requires.h_bound })

pub returns : goal.returns
returns c =
    let found : RuleFound c.args.u.rules c.args.rules.now (id_of c.args.h) (len_of (graph_of c.args.nodes.now [] [] c.args.c) (id_of c.args.h)) c.in-Some.i =
    let a = c.args in
    rule_found a.u.rules a.rules.now (id_of a.h) (len_of (graph_of a.nodes.now [] [] a.c) (id_of a.h)) c.in-Some.i (looked_up (nodes_of a.c.nodes a.nodes.now) (rules_of a.u.rules a.rules.now) a.h c.id-id.result c.node_len-len.result c.id-id.ensures c.node_len-len.ensures (sym c.in-Some.is ∙ c.find_rule.ensures.value))
    in
    let walk : transform_node (graph_of c.args.nodes.now [] [] c.args.c) (list_of c.args.rules.now c.args.steps.now c.args.u) c.args.h ≡ nodes_on (steps_of c.args.u.steps c.args.steps.now) (rule 0 0 (get_or c.args.rules.now (4 * c.in-Some.i + 2) 0) (get_or c.args.rules.now (4 * c.in-Some.i + 3) 0)) =
    let a = c.args in
    image_by (graph_of a.nodes.now [] [] a.c) (list_of a.rules.now a.steps.now a.u) a.h c.requires.nodes_in_bounds.2 (found).is_ruled (rule_at a.rules.now c.in-Some.i) (found).here
    in
    let len_is : c.node_len-len.result ≡ (len_of (graph_of c.args.nodes.now [] [] c.args.c) (id_of c.args.h)) =
    let a = c.args in
    c.node_len-len.ensures ∙ ap (λ (n : ℕ). (node_named n (nodes_of a.c.nodes a.nodes.now)).len) c.id-id.ensures
    in
    let a = c.args in
    row-filled (graph_of a.nodes.now [] [] a.c) (list_of a.rules.now a.steps.now a.u) a.h _ (walk) (sym (rw c.at-r.ensures at c.just_itself.ensures) ∙ c.if-just_itself.false) a.at c.id-id.result c.node_len-len.result c.id-id.ensures (len_is) (rw c.at-r.ensures at c.fill_row.ensures)
