use mathlib.Core.Path.{◌≡◌}
use lib.ListN.{drop}
use Rattle.store.specs.Graph.{ends, links_of}
use Rattle.handle.specs.Edge.{same_ends}
use Rattle.kit.specs.Loops.{any}
use Rattle.formed.proofs.link_again.Given as goal

abbrev pub invariant-loop-i : goal.invariant-loop-i
invariant-loop-i l = any (λ s. same_ends l.e (ends s)) (drop l.i (links_of l.count l.links)) ≡ any (λ s. same_ends l.e (ends s)) (drop l.start (links_of l.count l.links))
