use Rattle.groups.specs.Groups.{numbers}
use Rattle.events.specs.Events.{rule, steps_of}
use Rattle.rewriting.specs.Rewriting.{nodes_on}
use Rattle.rewriting.specs.Measure.{towards}
use Rattle.kit.proofs.Writes.{Putting}
use Rattle.rewriting.proofs.put_image.Given as goal

abbrev pub invariant-loop-j : goal.invariant-loop-j
invariant-loop-j l = Putting (numbers (towards l.direction (nodes_on (steps_of l.total l.steps) (rule 0 0 l.first l.count)))) l.at l.initial.out l.out l.j
