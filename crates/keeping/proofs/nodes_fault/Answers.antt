use mathlib.Core.List.{[]}
use Prim.Native.Nat.{◌-◌, ◌*◌}
use mathlib.Core.Path.{◌≡◌, sym, ap, ◌∙◌}
use native.Mathlib.Omega.{arith}
use borrow.Author.Tests.{not-true, not-false}
use Rattle.handle.specs.declared.Handle.{Handle}
use Rattle.store.specs.Graph.{graph_of}
use Rattle.store.specs.declared.Node.{Node}
use Rattle.events.specs.Events.{list_of}
use Rattle.keeping.specs.Kept.{node_kept}
use Rattle.keeping.proofs.NodesKept.{from_node, no_fault, turn-kept, turn-lost, id_high}
use lib.ListN.{get_or}
use Rattle.handle.specs.Handle.{pack}
use Rattle.keeping.proofs.nodes_fault.Goals as goal

pub loop-i-init : goal.loop-i-init
loop-i-init c =
    let a = c.args in
    no_fault (graph_of a.oldnodes.now a.oldtext.now [] a.c) (graph_of a.nodes.now a.text.now [] a.d) (list_of a.rules.now [] a.u) a.c.nodes a.oldnodes.now

pub forward-requires : goal.forward-requires
forward-requires c =
    let a = c.args in
    rw c.at-id.ensures (id_high a.oldnodes.now a.oldtext.now a.c c.requires.0 (c.loop-i.i - 1) (omega arith))

pub node_kept-requires : goal.node_kept-requires
node_kept-requires c = c.requires

pub loop-i-preserved-then-not-node_kept : goal.loop-i-preserved-then-not-node_kept
loop-i-preserved-then-not-node_kept c =
    let kept_so : node_kept (graph_of c.args.oldnodes.now c.args.oldtext.now [] c.args.c) (graph_of c.args.nodes.now c.args.text.now [] c.args.d) (list_of c.args.rules.now [] c.args.u) (pack (get_or c.args.oldnodes.now (4 * (c.loop-i.i - 1)) 0) 0) ≡ c.node_kept.result =
    let a = c.args in
    ap (λ (x : Handle). node_kept (graph_of a.oldnodes.now a.oldtext.now [] a.c) (graph_of a.nodes.now a.text.now [] a.d) (list_of a.rules.now [] a.u) x) (sym (c.forward.ensures ∙ ap (λ (r : Node). pack r.id 0) c.at-id.ensures)) ∙ sym c.node_kept.ensures
    in
    let a = c.args in
    (rw c.at-id.ensures at c.lower_fault-v.ensures) ∙ turn-lost (graph_of a.oldnodes.now a.oldtext.now [] a.c) (graph_of a.nodes.now a.text.now [] a.d) (list_of a.rules.now [] a.u) a.c.nodes a.oldnodes.now c.loop-i.i c.loop-i.v (omega arith) (omega arith) c.loop-i.invariant (kept_so ∙ not-true c.node_kept.result c.if-not-node_kept.true-raw)

pub loop-i-preserved : goal.loop-i-preserved
loop-i-preserved c =
    let kept_so : node_kept (graph_of c.args.oldnodes.now c.args.oldtext.now [] c.args.c) (graph_of c.args.nodes.now c.args.text.now [] c.args.d) (list_of c.args.rules.now [] c.args.u) (pack (get_or c.args.oldnodes.now (4 * (c.loop-i.i - 1)) 0) 0) ≡ c.node_kept.result =
    let a = c.args in
    ap (λ (x : Handle). node_kept (graph_of a.oldnodes.now a.oldtext.now [] a.c) (graph_of a.nodes.now a.text.now [] a.d) (list_of a.rules.now [] a.u) x) (sym (c.forward.ensures ∙ ap (λ (r : Node). pack r.id 0) c.at-id.ensures)) ∙ sym c.node_kept.ensures
    in
    let a = c.args in
    turn-kept (graph_of a.oldnodes.now a.oldtext.now [] a.c) (graph_of a.nodes.now a.text.now [] a.d) (list_of a.rules.now [] a.u) a.c.nodes a.oldnodes.now c.loop-i.i c.loop-i.v (omega arith) (omega arith) c.loop-i.invariant (kept_so ∙ not-false c.node_kept.result c.if-not-node_kept.false-raw)

pub returns : goal.returns
returns c =
    let a = c.args in
    let z : c.loop-i.i ≡ 0 = omega arith in
    c.loop-i.invariant
    ∙ ap (from_node (graph_of a.oldnodes.now a.oldtext.now [] a.c) (graph_of a.nodes.now a.text.now [] a.d) (list_of a.rules.now [] a.u) a.c.nodes a.oldnodes.now) z
