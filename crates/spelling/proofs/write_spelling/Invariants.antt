use mathlib.Core.List.{[]}
use Rattle.store.specs.Graph.{graph_of}
use Rattle.store.specs.Views.{spell}
use Rattle.spelling.proofs.Writing.{Writing}
use Rattle.spelling.proofs.write_spelling.Given as goal

abbrev pub invariant-loop-i : goal.invariant-loop-i
invariant-loop-i l = Writing (spell (graph_of l.nodes l.text [] l.c)) l.walk l.initial.out l.out l.at l.i
