use Prim.Native.Nat.{ℕ}
use mathlib.Core.Path.{ap, ◌∙◌}
use native.Mathlib.Omega.{arith}
use Rattle.store.specs.Graph.{nodes_of}
use Rattle.store.specs.Views.{node_named}
use Rattle.spelling.proofs.Steps.{measured_next, too_long, measured_all}
use Rattle.spelling.proofs.spelled_len.Goals as goal

pub loop-i-init : goal.loop-i-init
loop-i-init c = record { along = omega arith; fits = omega arith; rest = omega arith }

pub returns-then-room-n : goal.returns-then-room-n
returns-then-room-n c =
    let a = c.args in
    let e = c.node_len-len.ensures ∙ ap (λ (k : ℕ). (node_named k (nodes_of a.count a.nodes.now)).len) c.id.ensures in
    too_long c.loop-i.invariant c.node_len-len.result e (omega arith) c.if-room-n.true

pub loop-i-preserved : goal.loop-i-preserved
loop-i-preserved c =
    let a = c.args in
    let e = c.node_len-len.ensures ∙ ap (λ (k : ℕ). (node_named k (nodes_of a.count a.nodes.now)).len) c.id.ensures in
    measured_next c.loop-i.invariant c.node_len-len.result e (omega arith) c.if-room-n.false

pub returns : goal.returns
returns c = measured_all c.loop-i.invariant (omega arith)
