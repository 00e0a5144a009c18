use mathlib.Core.Path.{◌≡◌}
use Rattle.store.specs.Graph.{nodes_of}
use Rattle.writing.proofs.Links.{first_from}
use Rattle.writing.proofs.along.next_link.Given as goal

abbrev pub invariant-loop-i : goal.invariant-loop-i
invariant-loop-i l = l.best ≡ first_from l.last (nodes_of l.c.nodes l.nodes) l.c.links l.links l.i
