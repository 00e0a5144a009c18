use mathlib.Core.List.{[]}
use lib.ListN.{length}
use Rattle.kit.specs.Loops.{lines}
use Rattle.store.specs.Graph.{graph_of, nodes_of}
use Rattle.sides.proofs.Rising.{rest_above}
use Rattle.events.specs.Events.{list_of}
use Rattle.writing.specs.GraphText.{live_segments}
use Rattle.writing.specs.TableText.{table_line, old_segments}
use Rattle.writing.proofs.Filling.{Filling}
use Rattle.tabling.proofs.fill_rows.Given as goal

abbrev pub invariant-loop-h : goal.invariant-loop-h
invariant-loop-h l = Filling l.initial.out l.at (lines (table_line (graph_of l.nodes [] [] l.c) (list_of l.rules l.steps l.u)) (old_segments (nodes_of l.c.nodes l.nodes))) l.out l.place (lines (table_line (graph_of l.nodes [] [] l.c) (list_of l.rules l.steps l.u)) (rest_above l.above (live_segments (nodes_of l.c.nodes l.nodes))))

abbrev pub decreases-loop-h : goal.decreases-loop-h
decreases-loop-h l = length (rest_above l.above (live_segments (nodes_of l.c.nodes l.nodes)))
