-- What the code's search keeps, the first link so far over links that stand in no order.
use Rattle.std.specs.Prelude.{cond, ◌&&◌, ◌||◌, List, Option, Some, None, eqb}
use Rattle.kit.specs.Loops.{first_or}
use Rattle.handle.specs.declared.Edge.{Edge}
use Rattle.handle.specs.Edge.{edge, edge_before}
use Rattle.store.specs.Graph.{link, ends, handle}
use Rattle.store.specs.declared.Link.{Link}

-- no link: no node has id 0
abbrev pub no_ends : Edge
no_ends = edge (handle 0) (handle 0)

-- the ends that were found; none are two zeros
abbrev pub ends_of : Option Edge → Edge
ends_of None = no_ends
ends_of (Some e) = e

-- of links in written order the first that is written after e, by its ends
abbrev pub next_after : Edge → List Link → Edge
next_after e rs = ends (first_or (link no_ends 0) (λ r. edge_before e (ends r)) rs)

-- f where it is written after e and before the first so far, else that
abbrev pub sooner : Edge → Edge → Edge → Edge
sooner e f best = cond (edge_before e f && (eqb best.from.packed 0 || edge_before f best)) f best
