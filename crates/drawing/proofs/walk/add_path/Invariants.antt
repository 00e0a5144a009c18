use mathlib.Core.List.{[]}
use Prim.Native.Nat.{◌-◌, ◌≤◌}
use lib.ListN.{length, drop}
use Rattle.store.specs.Graph.{graph_of}
use Rattle.events.specs.Events.{list_of}
use Rattle.rewriting.specs.Rewriting.{transform_walk}
use Rattle.text.specs.Steps.{path_handles}
use Rattle.drawing.specs.Drawn.{steps_text}
use Rattle.drawing.proofs.Capping.{Capping}
use Rattle.drawing.proofs.walk.add_path.Given as goal

abbrev pub invariant-loop-c : goal.invariant-loop-c
invariant-loop-c l = (l.from ≤ length l.path) × Capping l.stop l.initial.out l.at (steps_text 1 (transform_walk (graph_of l.nodes [] [] l.c) (list_of l.rules l.steps l.u) (path_handles l.path))) l.out l.pen.place (steps_text l.pen.mark (transform_walk (graph_of l.nodes [] [] l.c) (list_of l.rules l.steps l.u) (path_handles (drop l.from l.path))))

abbrev pub decreases-loop-c : goal.decreases-loop-c
decreases-loop-c l = length l.path - l.from
