use mathlib.Core.Path.{◌≡◌, sym, ◌∙◌}
use mathlib.Core.Bool.{cond, not}
use Rattle.std.proofs.lemmas.Result.{err_from_is_err_and}
use Rattle.kit.proofs.Bools.{and_true_r}
use Rattle.kit.proofs.Laws.{length-decode}
use Rattle.kit.proofs.Refusals.{passed_is, refused_is}
use Rattle.store.specs.Graph.{node_layout, graph_of}
use Rattle.formed.specs.WellFormed.{room_for, good_graph}
use Rattle.affix.specs.Prefix.{handles_of}
use Rattle.events.specs.Events.{rule_layout, step_layout, list_of, append_all}
use Rattle.merged.proofs.Members.{Collapses}
use Rattle.collapsing.specs.Making.{state, members_number, list_number}
use Rattle.longer.specs.Ahead.{events_by}
use Rattle.collapsing.specs.Outcome.{lent, room_of}
use Rattle.collapsing.specs.Ready.{ready_number}
use Rattle.collapsing.proofs.Before.{passed_members, passed_events, ready_list, ready_room}
use Rattle.collapsing.proofs.ready.ready_number.Goals as goal

pub list_number-requires-clause-passed : goal.list_number-requires-clause-passed
list_number-requires-clause-passed c =
    let a = c.args in
    passed_events a.p (graph_of a.nodes.now a.text.now a.links.now a.c) (handles_of a.members.now) (passed_is c.members_number.ensures c.in_ok-members_number.was)

pub returns-in_err-list_number : goal.returns-in_err-list_number
returns-in_err-list_number c =
    let a = c.args in
    let l = lent a.nodes.now a.links.now a.rules.now a.steps.now in
    let g = graph_of a.nodes.now a.text.now a.links.now a.c in
    let ms = handles_of a.members.now in
    let members_pass : members_number c.args.p (graph_of c.args.nodes.now c.args.text.now c.args.links.now c.args.c) (handles_of c.args.members.now) ≡ 0 =
    passed_is c.members_number.ensures c.in_ok-members_number.was
    in
    let collapses : Collapses c.args.p (graph_of c.args.nodes.now c.args.text.now c.args.links.now c.args.c) (handles_of c.args.members.now) =
    passed_members a.p g ms (and_true_r (room_for a.nodes.now a.text.now a.links.now a.c) (good_graph g) c.requires.c_value.0) c.requires.c_value.1 members_pass
    in
    let p = err_from_is_err_and c.from_residual-in_err-list_number.result c.from_residual-in_err-list_number.ensures.1 in
    rw (p.1, p.2)
    (sym (ready_list (room_of l) a.p g (list_of a.rules.now a.steps.now a.u) ms members_pass collapses c.in_err-list_number.field-0.0 (refused_is c.list_number.ensures c.in_err-list_number.was)))

pub returns-then-not-lists_fit : goal.returns-then-not-lists_fit
returns-then-not-lists_fit c =
    let members_pass : members_number c.args.p ((graph_of c.args.nodes.now c.args.text.now c.args.links.now c.args.c)) ((handles_of c.args.members.now)) ≡ 0 =
    passed_is c.members_number.ensures c.in_ok-members_number.was
    in
    let collapses : Collapses c.args.p ((graph_of c.args.nodes.now c.args.text.now c.args.links.now c.args.c)) ((handles_of c.args.members.now)) =
    let a = c.args in
    passed_members a.p ((graph_of c.args.nodes.now c.args.text.now c.args.links.now c.args.c)) ((handles_of c.args.members.now)) (and_true_r (room_for a.nodes.now a.text.now a.links.now a.c) (good_graph ((graph_of c.args.nodes.now c.args.text.now c.args.links.now c.args.c))) c.requires.c_value.0) c.requires.c_value.1 (members_pass)
    in
    let list_passes : list_number (append_all ((list_of c.args.rules.now c.args.steps.now c.args.u)) (events_by c.args.p ((graph_of c.args.nodes.now c.args.text.now c.args.links.now c.args.c)).nodes ((handles_of c.args.members.now)))) ≡ 0 =
    passed_is c.list_number.ensures c.in_ok-list_number.was
    in
    let by_room : ready_number ((room_of (lent c.args.nodes.now c.args.links.now c.args.rules.now c.args.steps.now))) c.args.p (state ((graph_of c.args.nodes.now c.args.text.now c.args.links.now c.args.c)) ((list_of c.args.rules.now c.args.steps.now c.args.u))) ((handles_of c.args.members.now)) ≡ cond (not c.lists_fit.result) 7 0 =
    let a = c.args in
    ready_room ((room_of (lent c.args.nodes.now c.args.links.now c.args.rules.now c.args.steps.now))) a.p ((graph_of c.args.nodes.now c.args.text.now c.args.links.now c.args.c)) ((list_of c.args.rules.now c.args.steps.now c.args.u)) ((handles_of c.args.members.now)) (members_pass) (collapses) c.count_long-long.result c.count_events-more.result
    (list_passes) c.count_long-long.ensures c.count_events-more.ensures
    (c.lists_fit.ensures ∙ rw (length-decode node_layout a.c.nodes a.nodes.now, length-decode rule_layout a.u.rules a.rules.now, length-decode step_layout a.u.steps a.steps.now))
    in
    sym (by_room ∙ rw c.if-not-lists_fit.true)

pub returns : goal.returns
returns c =
    let members_pass : members_number c.args.p ((graph_of c.args.nodes.now c.args.text.now c.args.links.now c.args.c)) ((handles_of c.args.members.now)) ≡ 0 =
    passed_is c.members_number.ensures c.in_ok-members_number.was
    in
    let collapses : Collapses c.args.p ((graph_of c.args.nodes.now c.args.text.now c.args.links.now c.args.c)) ((handles_of c.args.members.now)) =
    let a = c.args in
    passed_members a.p ((graph_of c.args.nodes.now c.args.text.now c.args.links.now c.args.c)) ((handles_of c.args.members.now)) (and_true_r (room_for a.nodes.now a.text.now a.links.now a.c) (good_graph ((graph_of c.args.nodes.now c.args.text.now c.args.links.now c.args.c))) c.requires.c_value.0) c.requires.c_value.1 (members_pass)
    in
    let list_passes : list_number (append_all ((list_of c.args.rules.now c.args.steps.now c.args.u)) (events_by c.args.p ((graph_of c.args.nodes.now c.args.text.now c.args.links.now c.args.c)).nodes ((handles_of c.args.members.now)))) ≡ 0 =
    passed_is c.list_number.ensures c.in_ok-list_number.was
    in
    let by_room : ready_number ((room_of (lent c.args.nodes.now c.args.links.now c.args.rules.now c.args.steps.now))) c.args.p (state ((graph_of c.args.nodes.now c.args.text.now c.args.links.now c.args.c)) ((list_of c.args.rules.now c.args.steps.now c.args.u))) ((handles_of c.args.members.now)) ≡ cond (not c.lists_fit.result) 7 0 =
    let a = c.args in
    ready_room ((room_of (lent c.args.nodes.now c.args.links.now c.args.rules.now c.args.steps.now))) a.p ((graph_of c.args.nodes.now c.args.text.now c.args.links.now c.args.c)) ((list_of c.args.rules.now c.args.steps.now c.args.u)) ((handles_of c.args.members.now)) (members_pass) (collapses) c.count_long-long.result c.count_events-more.result
    (list_passes) c.count_long-long.ensures c.count_events-more.ensures
    (c.lists_fit.ensures ∙ rw (length-decode node_layout a.c.nodes a.nodes.now, length-decode rule_layout a.u.rules a.rules.now, length-decode step_layout a.u.steps a.steps.now))
    in
    sym (by_room ∙ rw c.if-not-lists_fit.false)
