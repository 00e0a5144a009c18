use mathlib.Core.List.{[]}
use Prim.Native.Nat.{◌-◌, ◌≤◌}
use lib.ListN.{length, drop}
use Rattle.kit.specs.Loops.{lines}
use Rattle.store.specs.Graph.{graph_of}
use Rattle.events.specs.Events.{list_of}
use Rattle.text.specs.Pieces.{lines_of}
use Rattle.paths.specs.PathText.{new_line, paths_text}
use Rattle.drawing.proofs.Capping.{Capping}
use Rattle.paths.proofs.line.add_lines.Given as goal

abbrev pub invariant-loop-c : goal.invariant-loop-c
invariant-loop-c l = (l.from ≤ length l.text) × Capping l.stop l.initial.out 0 (paths_text (graph_of l.nodes [] [] l.c) (list_of l.rules l.steps l.u) l.text) l.out l.place (lines (new_line (graph_of l.nodes [] [] l.c) (list_of l.rules l.steps l.u)) (lines_of (drop l.from l.text)))

abbrev pub decreases-loop-c : goal.decreases-loop-c
decreases-loop-c l = length l.text - l.from
