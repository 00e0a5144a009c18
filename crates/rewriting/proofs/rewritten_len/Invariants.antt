use Rattle.store.specs.Graph.{nodes_of}
use Rattle.events.specs.Events.{rules_of}
use Rattle.spelling.proofs.Steps.{Measured}
use Rattle.rewriting.specs.Measure.{new_len}
use Rattle.rewriting.proofs.rewritten_len.Given as goal

abbrev pub invariant-loop-i : goal.invariant-loop-i
invariant-loop-i l = Measured (new_len (nodes_of l.count l.nodes) (rules_of l.used l.rules)) l.room l.walk l.n l.i
