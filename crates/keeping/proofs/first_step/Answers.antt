use mathlib.Core.Path.{sym, ap, ◌∙◌}
use mathlib.Core.List.{[], List}
use Rattle.handle.specs.declared.Handle.{Handle}
use Rattle.handle.specs.Handle.{id_of}
use Rattle.store.specs.Graph.{nodes_of, graph_of}
use Rattle.store.specs.Views.{len_of}
use Rattle.events.specs.Events.{rules_of, list_of}
use Rattle.events.proofs.Says.{table-room}
use Rattle.rewriting.proofs.Tables.{RuleFound, rule_found, rule_nowhere, looked_up}
use Rattle.rewriting.proofs.Images.{no_rule}
use Rattle.keeping.specs.Kept.{first_of}
use Rattle.keeping.proofs.LinksKept.{slot_steps, slot_inside, first_by_rule}
use Rattle.keeping.proofs.first_step.Goals as goal

pub find_rule-requires : goal.find_rule-requires
find_rule-requires c =
    let a = c.args in
    (table-room a.rules.now a.steps.now a.u c.requires.1).rule_room

pub returns-in_default : goal.returns-in_default
returns-in_default c =
    let a = c.args in
    let len = len_of (graph_of a.oldnodes.now [] [] a.c) (id_of a.h) in
    sym (ap (λ (hs : List Handle). (first_of hs).packed) (no_rule (graph_of a.oldnodes.now [] [] a.c) (list_of a.rules.now a.steps.now a.u) a.h
    (rule_nowhere (id_of a.h) len (rules_of a.u.rules a.rules.now) (looked_up (nodes_of a.c.nodes a.oldnodes.now) (rules_of a.u.rules a.rules.now) a.h c.id-id.result c.node_len-len.result c.id-id.ensures c.node_len-len.ensures (sym c.in_default.is ∙ c.find_rule.ensures.value)))))

pub image_step-requires : goal.image_step-requires
image_step-requires c =
    let found : RuleFound c.args.u.rules c.args.rules.now (id_of c.args.h) (len_of (graph_of c.args.oldnodes.now [] [] c.args.c) (id_of c.args.h)) c.in-Some.i =
    let a = c.args in
    rule_found a.u.rules a.rules.now (id_of a.h) (len_of (graph_of a.oldnodes.now [] [] a.c) (id_of a.h)) c.in-Some.i (looked_up (nodes_of a.c.nodes a.oldnodes.now) (rules_of a.u.rules a.rules.now) a.h c.id-id.result c.node_len-len.result c.id-id.ensures c.node_len-len.ensures (sym c.in-Some.is ∙ c.find_rule.ensures.value))
    in
    let a = c.args in
    let ok = c.requires.1 in
    let k = c.in-Some.i in
    rw c.at-r.ensures ((table-room a.rules.now a.steps.now a.u ok).step_room, slot_inside a.oldnodes.now a.rules.now a.steps.now a.c a.u ok a.h k (found), slot_steps a.oldnodes.now a.rules.now a.steps.now a.c a.u ok a.h k (found) c.requires.2)

pub returns : goal.returns
returns c =
    let found : RuleFound c.args.u.rules c.args.rules.now (id_of c.args.h) (len_of (graph_of c.args.oldnodes.now [] [] c.args.c) (id_of c.args.h)) c.in-Some.i =
    let a = c.args in
    rule_found a.u.rules a.rules.now (id_of a.h) (len_of (graph_of a.oldnodes.now [] [] a.c) (id_of a.h)) c.in-Some.i (looked_up (nodes_of a.c.nodes a.oldnodes.now) (rules_of a.u.rules a.rules.now) a.h c.id-id.result c.node_len-len.result c.id-id.ensures c.node_len-len.ensures (sym c.in-Some.is ∙ c.find_rule.ensures.value))
    in
    let a = c.args in
    (rw c.at-r.ensures at c.image_step.ensures)
    ∙ sym (first_by_rule a.oldnodes.now a.rules.now a.steps.now a.c a.u c.requires.1 a.h c.in-Some.i (found) c.direction-direction.result c.direction-direction.ensures)
