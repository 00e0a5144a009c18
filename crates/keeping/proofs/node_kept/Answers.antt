use mathlib.Core.List.{[]}
use Prim.Native.Nat.{ℕ}
use mathlib.Core.Path.{◌≡◌, sym, ap, ap₂, ◌∙◌}
use borrow.Author.Tests.{not-true, not-false}
use Rattle.letters.specs.Sequences.{same_spelling}
use Rattle.store.specs.Graph.{graph_of, nodes_of}
use Rattle.store.specs.Views.{live_node, len_of}
use Rattle.affix.proofs.LookedUp.{inside, reads}
use Rattle.events.specs.Events.{list_of, rules_of}
use Rattle.keeping.proofs.NodesKept.{rule_told, kept-ruled, kept_dead, kept-live}
use Rattle.handle.specs.Handle.{id_of}
use Rattle.rewriting.specs.Rewriting.{ruled}
use Rattle.keeping.proofs.node_kept.Goals as goal

pub node_len-requires : goal.node_len-requires
node_len-requires c = c.requires.0.node_room

pub has_rule-requires : goal.has_rule-requires
has_rule-requires c = c.requires.2

pub returns-then-has_rule : goal.returns-then-has_rule
returns-then-has_rule c =
    let ruled_so : ruled (id_of c.args.h) (len_of (graph_of c.args.oldnodes.now c.args.oldtext.now [] c.args.c) (id_of c.args.h)) (rules_of c.args.u.rules c.args.rules.now) ≡ c.has_rule.result =
    let a = c.args in
    rule_told (graph_of a.oldnodes.now a.oldtext.now [] a.c) (graph_of a.nodes.now a.text.now [] a.d) (list_of a.rules.now [] a.u) a.h c.id-id.result c.node_len.result c.id-id.ensures c.node_len.ensures c.has_rule.ensures
    in
    let a = c.args in
    let old = graph_of a.oldnodes.now a.oldtext.now [] a.c in
    let new = graph_of a.nodes.now a.text.now [] a.d in
    let t = list_of a.rules.now [] a.u in
    sym (kept-ruled old new t a.h (ruled_so ∙ c.if-has_rule.true))

pub live_node-requires : goal.live_node-requires
live_node-requires c = c.requires.1.node_room

pub returns-then-not-live_node : goal.returns-then-not-live_node
returns-then-not-live_node c =
    let ruled_so : ruled (id_of c.args.h) (len_of (graph_of c.args.oldnodes.now c.args.oldtext.now [] c.args.c) (id_of c.args.h)) (rules_of c.args.u.rules c.args.rules.now) ≡ c.has_rule.result =
    let a = c.args in
    rule_told (graph_of a.oldnodes.now a.oldtext.now [] a.c) (graph_of a.nodes.now a.text.now [] a.d) (list_of a.rules.now [] a.u) a.h c.id-id.result c.node_len.result c.id-id.ensures c.node_len.ensures c.has_rule.ensures
    in
    let live_so : live_node (id_of c.args.h) (nodes_of c.args.d.nodes c.args.nodes.now) ≡ c.live_node.result =
    let a = c.args in
    ap (λ (k : ℕ). live_node k (nodes_of a.d.nodes a.nodes.now)) (sym c.id-id.ensures) ∙ sym c.live_node.ensures
    in
    let a = c.args in
    let old = graph_of a.oldnodes.now a.oldtext.now [] a.c in
    let new = graph_of a.nodes.now a.text.now [] a.d in
    let t = list_of a.rules.now [] a.u in
    sym (kept_dead old new t a.h (ruled_so ∙ c.if-has_rule.false) (live_so ∙ not-true c.live_node.result c.if-not-live_node.true-raw))

pub look_up-r-requires : goal.look_up-r-requires
look_up-r-requires c = c.requires.0.node_room

pub look_up-s-requires : goal.look_up-s-requires
look_up-s-requires c = c.requires.1.node_room

pub same_letters-requires : goal.same_letters-requires
same_letters-requires c =
    let a = c.args in
    (inside a.oldnodes.now a.oldtext.now a.c c.requires.0 a.h c.look_up-r.result c.look_up-r.ensures, inside a.nodes.now a.text.now a.d c.requires.1 a.h c.look_up-s.result c.look_up-s.ensures)

pub returns : goal.returns
returns c =
    let ruled_so : ruled (id_of c.args.h) (len_of (graph_of c.args.oldnodes.now c.args.oldtext.now [] c.args.c) (id_of c.args.h)) (rules_of c.args.u.rules c.args.rules.now) ≡ c.has_rule.result =
    let a = c.args in
    rule_told (graph_of a.oldnodes.now a.oldtext.now [] a.c) (graph_of a.nodes.now a.text.now [] a.d) (list_of a.rules.now [] a.u) a.h c.id-id.result c.node_len.result c.id-id.ensures c.node_len.ensures c.has_rule.ensures
    in
    let live_so : live_node (id_of c.args.h) (nodes_of c.args.d.nodes c.args.nodes.now) ≡ c.live_node.result =
    let a = c.args in
    ap (λ (k : ℕ). live_node k (nodes_of a.d.nodes a.nodes.now)) (sym c.id-id.ensures) ∙ sym c.live_node.ensures
    in
    let a = c.args in
    let old = graph_of a.oldnodes.now a.oldtext.now [] a.c in
    let new = graph_of a.nodes.now a.text.now [] a.d in
    let t = list_of a.rules.now [] a.u in
    c.same_letters.ensures
    ∙ ap₂ same_spelling
    (reads a.oldnodes.now a.oldtext.now a.c c.requires.0 a.h c.look_up-r.result c.look_up-r.ensures)
    (reads a.nodes.now a.text.now a.d c.requires.1 a.h c.look_up-s.result c.look_up-s.ensures)
    ∙ sym (kept-live old new t a.h (ruled_so ∙ c.if-has_rule.false) (live_so ∙ not-false c.live_node.result c.if-not-live_node.false-raw))
