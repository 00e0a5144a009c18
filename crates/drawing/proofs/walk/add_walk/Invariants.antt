use mathlib.Core.List.{[]}
use Prim.Native.Nat.{◌-◌, ◌≤◌}
use lib.ListN.{length, drop}
use Rattle.store.specs.Graph.{graph_of}
use Rattle.events.specs.Events.{list_of}
use Rattle.rewriting.specs.Rewriting.{transform_walk}
use Rattle.text.specs.Steps.{walk_handles}
use Rattle.drawing.specs.Drawn.{steps_text}
use Rattle.drawing.proofs.Capping.{Capping}
use Rattle.drawing.proofs.walk.add_walk.Given as goal

abbrev pub invariant-loop-from : goal.invariant-loop-from
invariant-loop-from l = (l.from ≤ length l.walk) × Capping l.stop l.initial.out l.at (steps_text 0 (transform_walk (graph_of l.nodes [] [] l.c) (list_of l.rules l.steps l.u) (walk_handles l.walk))) l.out l.pen.place (steps_text l.pen.mark (transform_walk (graph_of l.nodes [] [] l.c) (list_of l.rules l.steps l.u) (walk_handles (drop l.from l.walk))))

abbrev pub decreases-loop-from : goal.decreases-loop-from
decreases-loop-from l = length l.walk - l.from
