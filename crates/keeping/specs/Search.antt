-- What the code's searches keep: the links with no live counterpart, and a link's ends.
use Rattle.std.specs.Prelude.{ℕ, ◌+◌, ◌*◌, not, List, get_or}
use Rattle.kit.specs.Loops.{keep}
use Rattle.handle.specs.declared.Edge.{Edge}
use Rattle.handle.specs.Edge.{edge}
use Rattle.store.specs.Graph.{Graph, handle}
use Rattle.store.specs.declared.Link.{Link}
use Rattle.store.specs.Order.{written_order}
use Rattle.events.specs.Events.{Rules}
use Rattle.keeping.specs.Kept.{link_kept}

-- 27: in written order
abbrev pub lost_links : Graph → Graph → Rules → List Link → List Link
lost_links old new t rs = keep (λ r. not (link_kept old new t r)) (written_order rs)

-- the ends of the link in slot i
abbrev pub ends_at : List ℕ → ℕ → Edge
ends_at l i = edge (handle (get_or l (3 * i) 0)) (handle (get_or l (3 * i + 1) 0))
