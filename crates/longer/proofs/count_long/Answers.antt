use mathlib.Core.Bool.{cond}
use native.Mathlib.Omega.{arith}
use lib.Dec.{ltb}
use Rattle.kit.proofs.Steps.{sum_end}
use Rattle.handle.specs.declared.Handle.{Handle}
use Rattle.store.specs.Graph.{nodes_of}
use Rattle.affix.proofs.Runs.{no_handle}
use Rattle.merging.specs.Plan.{long_by}
use Rattle.longer.proofs.Turns.{count_turn}
use Rattle.longer.proofs.ByMember.{one_at_most}
use Rattle.longer.proofs.count_long.Goals as goal

pub loop-i-preserved : goal.loop-i-preserved
loop-i-preserved c =
    let a = c.args in
    let i = c.loop-i.i in
    let n = c.loop-i.n in (
      omega (arith, c.fresh_after-n.ensures, one_at_most (ltb a.p c.len_of-len.result) n),
      omega (arith, c.fresh_after-n.ensures, count_turn a.p (nodes_of a.node_count a.nodes.now) a.members.now i _ (omega arith) c.len_of-len.ensures n),
    )

pub returns : goal.returns
returns c =
    let a = c.args in
    let N = nodes_of a.node_count a.nodes.now in
    omega (arith, sum_end (λ (m : Handle). cond (long_by a.p N m) 1 0) (no_handle a.members.now c.loop-i.i (omega arith)))
