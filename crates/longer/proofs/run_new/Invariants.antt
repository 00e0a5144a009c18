use Prim.Native.Nat.{◌+◌, ◌≤◌}
use mathlib.Core.Path.{◌≡◌}
use lib.ListN.{drop}
use Rattle.kit.specs.Loops.{count}
use Rattle.handle.specs.Handle.{max_id}
use Rattle.store.specs.Graph.{nodes_of}
use Rattle.affix.specs.Prefix.{handles_of}
use Rattle.events.specs.Events.{rules_of}
use Rattle.merging.specs.Plan.{long_by}
use Rattle.longer.specs.Ahead.{later_events_by, steps_new}
use Rattle.longer.proofs.run_new.Given as goal

abbrev pub invariant-loop-i : goal.invariant-loop-i
invariant-loop-i l =
    let N = nodes_of l.node_count l.nodes in
    let R = rules_of l.rule_count l.rules in
    let ms = handles_of l.members in
    (l.fresh + count (long_by l.p N) (drop l.i ms) ≤ max_id + 1) × (steps_new R (later_events_by l.p N l.x l.fresh (drop l.i ms)) ≡ steps_new R (later_events_by l.p N l.x l.initial.fresh (drop l.initial.i ms)))
