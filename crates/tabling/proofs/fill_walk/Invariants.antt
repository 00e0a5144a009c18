use lib.ListN.{drop}
use Rattle.kit.specs.Loops.{lines}
use Rattle.events.specs.Events.{rule, steps_of}
use Rattle.rewriting.specs.Rewriting.{nodes_on}
use Rattle.writing.specs.Marks.{walk_step, walk_text}
use Rattle.writing.proofs.Filling.{Filling}
use Rattle.tabling.proofs.fill_walk.Given as goal

abbrev pub invariant-loop-j : goal.invariant-loop-j
invariant-loop-j l = Filling l.initial.out l.at (walk_text (nodes_on (steps_of l.total l.steps) (rule 0 0 l.first l.count))) l.out l.place (lines walk_step (drop l.j (nodes_on (steps_of l.total l.steps) (rule 0 0 l.first l.count))))
