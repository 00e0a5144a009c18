use native.Mathlib.Omega.{arith}
use Rattle.store.specs.Graph.{nodes_of}
use Rattle.longer.proofs.Turns.{count_turn, run-turn, run_end}
use Rattle.longer.proofs.Held.{going_start, going_as, going-room, going-turn, going_end}
use Rattle.longer.proofs.append_run.Goals as goal

pub loop-i-init : goal.loop-i-init
loop-i-init c = (c.requires.members_bound, going_start c.args.rules.now c.args.steps.now c.args.u _)

pub append_event-used-requires : goal.append_event-used-requires
append_event-used-requires c =
    let a = c.args in
    let N = nodes_of a.node_count a.nodes.now in
    let i = c.loop-i.i in record { room_for = going-room c.requires.room_for (going_as (run-turn a.p N a.members.now i _ (omega arith) c.len_of-len.ensures a.r.x c.loop-i.fresh) c.loop-i.invariant.1); fresh_bound = omega (arith, c.loop-i.invariant.0, count_turn a.p N a.members.now i _ (omega arith) c.len_of-len.ensures c.loop-i.fresh) }

pub fresh_after-fresh-requires : goal.fresh_after-fresh-requires
fresh_after-fresh-requires c t = omega (arith, c.loop-i.invariant.0)

pub loop-i-preserved : goal.loop-i-preserved
loop-i-preserved c =
    let a = c.args in
    let N = nodes_of a.node_count a.nodes.now in
    let i = c.loop-i.i in (
      omega (arith, c.loop-i.invariant.0, c.fresh_after-fresh.ensures, count_turn a.p N a.members.now i _ (omega arith) c.len_of-len.ensures c.loop-i.fresh),
      rw c.fresh_after-fresh.ensures (going-turn c.requires.room_for (going_as (run-turn a.p N a.members.now i _ (omega arith) c.len_of-len.ensures a.r.x c.loop-i.fresh) c.loop-i.invariant.1) c.append_event-used.ensures),
    )

pub shape_of-rules : goal.shape_of-rules
shape_of-rules c = c.loop-i.invariant.1.rules_size

pub shape_of-steps : goal.shape_of-steps
shape_of-steps c = c.loop-i.invariant.1.steps_size

pub returns : goal.returns
returns c =
    let a = c.args in
    going_end c.requires.room_for (going_as (run_end a.p (nodes_of a.node_count a.nodes.now) a.members.now c.loop-i.i a.r.x c.loop-i.fresh (omega arith)) c.loop-i.invariant.1)
