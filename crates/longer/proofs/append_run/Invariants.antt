use Prim.Native.Nat.{◌+◌, ◌≤◌}
use lib.ListN.{drop}
use Rattle.kit.specs.Loops.{count}
use Rattle.handle.specs.Handle.{max_id}
use Rattle.store.specs.Graph.{nodes_of}
use Rattle.affix.specs.Prefix.{handles_of}
use Rattle.events.specs.Events.{list_of, append_all}
use Rattle.merging.specs.Plan.{long_by}
use Rattle.longer.specs.Ahead.{later_events_by}
use Rattle.longer.proofs.Held.{Going}
use Rattle.longer.proofs.append_run.Given as goal

abbrev pub invariant-loop-i : goal.invariant-loop-i
invariant-loop-i l =
    let N = nodes_of l.node_count l.nodes in
    let ms = handles_of l.members in
    (l.fresh + count (long_by l.p N) (drop l.i ms) ≤ max_id + 1) × Going (append_all (list_of l.initial.rules l.initial.steps l.initial.used) (later_events_by l.p N l.x l.initial.fresh (drop l.initial.i ms))) l.initial.rules l.initial.steps l.rules l.steps l.used (later_events_by l.p N l.x l.fresh (drop l.i ms))
