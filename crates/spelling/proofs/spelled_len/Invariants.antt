use Rattle.store.specs.Graph.{nodes_of}
use Rattle.spelling.specs.Measure.{step_len}
use Rattle.spelling.proofs.Steps.{Measured}
use Rattle.spelling.proofs.spelled_len.Given as goal

abbrev pub invariant-loop-i : goal.invariant-loop-i
invariant-loop-i l = Measured (step_len (nodes_of l.count l.nodes)) l.room l.walk l.n l.i
