use mathlib.Core.List.{[]}
use lib.ListN.{length}
use Rattle.kit.specs.Loops.{lines}
use Rattle.store.specs.Graph.{graph_of, nodes_of}
use Rattle.sides.proofs.Rising.{rest_above}
use Rattle.writing.specs.GraphText.{segment_line, live_segments}
use Rattle.writing.proofs.Filling.{Filling}
use Rattle.writing.proofs.graph.fill_segments.Given as goal

abbrev pub invariant-loop-h : goal.invariant-loop-h
invariant-loop-h l = Filling l.initial.out l.at (lines (segment_line (graph_of l.nodes l.text [] l.c)) (live_segments (nodes_of l.c.nodes l.nodes))) l.out l.place (lines (segment_line (graph_of l.nodes l.text [] l.c)) (rest_above l.above (live_segments (nodes_of l.c.nodes l.nodes))))

abbrev pub decreases-loop-h : goal.decreases-loop-h
decreases-loop-h l = length (rest_above l.above (live_segments (nodes_of l.c.nodes l.nodes)))
