use Prim.Native.Nat.{ℕ}
use mathlib.Core.Path.{◌≡◌, sym, ap, ◌∙◌}
use native.Mathlib.Omega.{arith}
use Rattle.handle.specs.Handle.{id_of}
use Rattle.store.specs.Graph.{nodes_of}
use Rattle.store.specs.Views.{node_named}
use Rattle.merging.proofs.NodeTurns.{prefix_forward, prefix_short, prefix_fresh}
use Rattle.merging.proofs.nodes.prefix_id.Goals as goal

pub returns-then-direction-eq-FORWARD : goal.returns-then-direction-eq-FORWARD
returns-then-direction-eq-FORWARD c =
    let a = c.args in
    c.id-id.ensures ∙ sym (ap id_of (prefix_forward a.p (nodes_of a.count a.nodes.now) a.m a.fresh (sym c.direction.ensures ∙ c.if-direction-eq-FORWARD.true)))

pub returns-then-node_len-p : goal.returns-then-node_len-p
returns-then-node_len-p c =
    let len : c.node_len.result ≡ (node_named (id_of c.args.m) (nodes_of c.args.count c.args.nodes.now)).len =
    let a = c.args in
    c.node_len.ensures ∙ ap (λ (j : ℕ). (node_named j (nodes_of a.count a.nodes.now)).len) c.id-id.ensures
    in
    let a = c.args in
    c.id-id.ensures ∙ sym (ap id_of (prefix_short a.p (nodes_of a.count a.nodes.now) a.m (omega (arith, len)) a.fresh))

pub returns : goal.returns
returns c =
    let len : c.node_len.result ≡ (node_named (id_of c.args.m) (nodes_of c.args.count c.args.nodes.now)).len =
    let a = c.args in
    c.node_len.ensures ∙ ap (λ (j : ℕ). (node_named j (nodes_of a.count a.nodes.now)).len) c.id-id.ensures
    in
    let a = c.args in
    sym (prefix_fresh a.p (nodes_of a.count a.nodes.now) a.m (omega (arith, len)) a.fresh (λ e. c.if-direction-eq-FORWARD.false (c.direction.ensures ∙ e)))
