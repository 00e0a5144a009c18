use mathlib.Core.Path.{◌≡◌, sym, ◌∙◌}
use mathlib.Core.Bool.{true}
use Rattle.store.specs.Graph.{nodes_of}
use Rattle.affix.specs.Prefix.{handles_of}
use Rattle.events.specs.Events.{list_of, append_all}
use Rattle.events.specs.WellFormed.{keys_once}
use Rattle.longer.specs.Ahead.{events_by}
use Rattle.collapsing.proofs.Lists.{keys_are, order_is}
use Rattle.collapsing.proofs.number.list_number.Goals as goal

pub returns-then-not-keys_new : goal.returns-then-not-keys_new
returns-then-not-keys_new c =
    let a = c.args in
    rw (keys_are a.rules.now a.steps.now a.u c.requires.u_value.0 a.p (nodes_of a.node_count a.nodes.now) (handles_of a.members.now) c.requires.passed c.requires.u_value.1, sym c.if-not-keys_new.ensures)

pub returns-then-not-in_order : goal.returns-then-not-in_order
returns-then-not-in_order c =
    let new_keys : keys_once (append_all (list_of c.args.rules.now c.args.steps.now c.args.u) (events_by c.args.p (nodes_of c.args.node_count c.args.nodes.now) (handles_of c.args.members.now))).rules ≡ true =
    let a = c.args in
    keys_are a.rules.now a.steps.now a.u c.requires.u_value.0 a.p (nodes_of a.node_count a.nodes.now) (handles_of a.members.now) c.requires.passed c.requires.u_value.1
    ∙ sym c.if-not-keys_new.ensures
    in
    let a = c.args in
    rw (new_keys, order_is a.rules.now a.steps.now a.u c.requires.u_value.0 a.p (nodes_of a.node_count a.nodes.now) (handles_of a.members.now) c.requires.passed, sym c.if-not-in_order.ensures)

pub returns-then-not-steps_new : goal.returns-then-not-steps_new
returns-then-not-steps_new c =
    let new_keys : keys_once (append_all (list_of c.args.rules.now c.args.steps.now c.args.u) (events_by c.args.p (nodes_of c.args.node_count c.args.nodes.now) (handles_of c.args.members.now))).rules ≡ true =
    let a = c.args in
    keys_are a.rules.now a.steps.now a.u c.requires.u_value.0 a.p (nodes_of a.node_count a.nodes.now) (handles_of a.members.now) c.requires.passed c.requires.u_value.1
    ∙ sym c.if-not-keys_new.ensures
    in
    let a = c.args in
    rw (new_keys, order_is a.rules.now a.steps.now a.u c.requires.u_value.0 a.p (nodes_of a.node_count a.nodes.now) (handles_of a.members.now) c.requires.passed, sym c.if-not-in_order.ensures, sym c.if-not-steps_new.ensures)

pub returns : goal.returns
returns c =
    let new_keys : keys_once (append_all (list_of c.args.rules.now c.args.steps.now c.args.u) (events_by c.args.p (nodes_of c.args.node_count c.args.nodes.now) (handles_of c.args.members.now))).rules ≡ true =
    let a = c.args in
    keys_are a.rules.now a.steps.now a.u c.requires.u_value.0 a.p (nodes_of a.node_count a.nodes.now) (handles_of a.members.now) c.requires.passed c.requires.u_value.1
    ∙ sym c.if-not-keys_new.ensures
    in
    let a = c.args in
    rw (new_keys, order_is a.rules.now a.steps.now a.u c.requires.u_value.0 a.p (nodes_of a.node_count a.nodes.now) (handles_of a.members.now) c.requires.passed, sym c.if-not-in_order.ensures, sym c.if-not-steps_new.ensures)
