use lib.ListN.{drop}
use Rattle.events.specs.Events.{rule, steps_of}
use Rattle.rewriting.specs.Rewriting.{nodes_on}
use Rattle.rewriting.specs.Measure.{towards}
use Rattle.drawing.proofs.Drawing.{Drawing}
use Rattle.drawing.proofs.image.add_image.Given as goal

abbrev pub invariant-loop-j : goal.invariant-loop-j
invariant-loop-j l = Drawing l.stop l.initial.out l.initial.pen (towards l.direction (nodes_on (steps_of l.total l.steps) (rule 0 0 l.first l.count))) l.out l.pen (drop l.j (towards l.direction (nodes_on (steps_of l.total l.steps) (rule 0 0 l.first l.count))))
