use Rattle.formed.proofs.Says.{formed_room, formed_good}
use Rattle.affix.proofs.LookedUp.{formed_readable}
use Rattle.events.proofs.Says.{table-room}
use Rattle.verdict.proofs.Composed.{rules_stop, rules_full, nodes_stop, links_stop, repeats_last}
use Rattle.verdict.proofs.conditions.Goals as goal

pub scan_rules-scanned-requires : goal.scan_rules-scanned-requires
scan_rules-scanned-requires c =
    let a = c.args in
    record { readable = formed_readable a.old_nodes.now a.old_text.now a.old_links.now a.c c.requires.0; d_value = (c.requires.1, c.requires.2) }

pub returns-then-scanned-ne0 : goal.returns-then-scanned-ne0
returns-then-scanned-ne0 c =
    let a = c.args in
    rules_stop a.old_nodes.now a.old_text.now a.old_links.now a.nodes.now a.text.now a.links.now a.c a.d a.table.now a.steps.now a.u a.protected.now _ c.scan_rules-scanned.ensures c.if-scanned-ne0.true

pub nodes_fault-lost-requires : goal.nodes_fault-lost-requires
nodes_fault-lost-requires c =
    let a = c.args in
    (formed_readable a.old_nodes.now a.old_text.now a.old_links.now a.c c.requires.0, formed_readable a.nodes.now a.text.now a.links.now a.d c.requires.1, (table-room a.table.now a.steps.now a.u c.requires.2).rule_room)

pub returns-then-lost-ne0 : goal.returns-then-lost-ne0
returns-then-lost-ne0 c =
    let a = c.args in
    nodes_stop a.old_nodes.now a.old_text.now a.old_links.now a.nodes.now a.text.now a.links.now a.c a.d a.table.now a.steps.now a.u a.protected.now _ c.scan_rules-scanned.ensures c.if-scanned-ne0.false _ c.nodes_fault-lost.ensures c.if-lost-ne0.true

pub links_fault-cut-requires : goal.links_fault-cut-requires
links_fault-cut-requires c =
    let a = c.args in
    let o = formed_room a.old_nodes.now a.old_text.now a.old_links.now a.c c.requires.0 in
    let n = formed_room a.nodes.now a.text.now a.links.now a.d c.requires.1 in
    record { nodes_in_bounds = (o.node_room, o.link_room, n.node_room, n.link_room); u_value = (c.requires.2, rules_full a.old_nodes.now a.old_text.now a.old_links.now a.nodes.now a.text.now a.links.now a.c a.d a.table.now a.steps.now a.u a.protected.now _ c.scan_rules-scanned.ensures c.if-scanned-ne0.false, (formed_good a.old_nodes.now a.old_text.now a.old_links.now a.c c.requires.0).links_once) }

pub returns-then-cut-ne0 : goal.returns-then-cut-ne0
returns-then-cut-ne0 c =
    let a = c.args in
    links_stop a.old_nodes.now a.old_text.now a.old_links.now a.nodes.now a.text.now a.links.now a.c a.d a.table.now a.steps.now a.u a.protected.now _ c.scan_rules-scanned.ensures c.if-scanned-ne0.false _ c.nodes_fault-lost.ensures c.if-lost-ne0.false _ c.links_fault-cut.ensures c.if-cut-ne0.true

pub first_repeat-requires : goal.first_repeat-requires
first_repeat-requires c =
    let a = c.args in
    ((formed_room a.old_nodes.now a.old_text.now a.old_links.now a.c c.requires.0).node_room, c.requires.2)

pub returns : goal.returns
returns c =
    let a = c.args in
    repeats_last a.old_nodes.now a.old_text.now a.old_links.now a.nodes.now a.text.now a.links.now a.c a.d a.table.now a.steps.now a.u a.protected.now _ c.scan_rules-scanned.ensures c.if-scanned-ne0.false _ c.nodes_fault-lost.ensures c.if-lost-ne0.false _ c.links_fault-cut.ensures c.if-cut-ne0.false _ c.first_repeat.ensures
