use lib.ListN.{length}
use Rattle.kit.specs.Loops.{lines}
use Rattle.sides.specs.Sides.{bare}
use Rattle.writing.specs.GraphText.{link_line, live_links}
use Rattle.writing.proofs.Filling.{Filling}
use Rattle.writing.proofs.Links.{rest_after}
use Rattle.writing.proofs.graph.fill_links.Given as goal

abbrev pub invariant-loop-e : goal.invariant-loop-e
invariant-loop-e l = Filling l.initial.out l.at (lines link_line (live_links (bare l.nodes l.links l.c))) l.out l.place (lines link_line (rest_after l.last (live_links (bare l.nodes l.links l.c))))

abbrev pub decreases-loop-e : goal.decreases-loop-e
decreases-loop-e l = length (rest_after l.last (live_links (bare l.nodes l.links l.c)))
