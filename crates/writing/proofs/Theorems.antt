-- What is written stands in order and is complete: each live node and each live link once, and each old node once for the
-- table. A list that rises strictly has nothing twice.
use mathlib.Core.Path.{◌≡◌}
use mathlib.Core.Bool.{true}
use mathlib.Core.List.Memᴰ
use mathlib.Core.List.{List, map, Memᴰ}
use Rattle.kit.specs.Loops.{keep}
use Rattle.kit.proofs.Members.{in_keep, of_keep}
use Rattle.handle.specs.declared.Handle.{Handle}
use Rattle.handle.specs.Handle.{pack}
use Rattle.store.specs.Graph.{Graph}
use Rattle.store.specs.declared.Node.{Node}
use Rattle.store.specs.declared.Link.{Link}
use Rattle.store.specs.Views.{unmarked_node, live_link}
use Rattle.store.proofs.Order.{Written, of_order, in_order_lem}
use Rattle.formed.specs.WellFormed.{links_once}
use Rattle.sides.proofs.Rising.{Sorted, rising_sorted, of_rising, in_rising}
use Rattle.writing.specs.GraphText.{live_segments, live_links}
use Rattle.writing.specs.TableText.{old_segments}
use Rattle.writing.proofs.Segments.{segments_sorted}
use Rattle.writing.proofs.Links.{live_written}

abbrev forward : Node → Handle
forward r = pack r.id 0

-- S lines: by rising id; those of the live nodes, and no others
pub segments_rise : (nodes : List Node) → Sorted (live_segments nodes)
segments_rise nodes = segments_sorted nodes

pub segments-all : (nodes : List Node) {r : Node} → Memᴰ r nodes → unmarked_node r ≡ true → Memᴰ (forward r) (live_segments nodes)
segments-all nodes m live = in_rising (Memᴰ.map forward (in_keep unmarked_node m live))

pub segments-live : (nodes : List Node) {u : Handle} → Memᴰ u (live_segments nodes) → (r : Node) × Memᴰ r nodes × (unmarked_node r ≡ true) × (forward r ≡ u)
segments-live nodes m =
    let r = Memᴰ.of_map forward (keep unmarked_node nodes) (of_rising (map forward (keep unmarked_node nodes)) m) in
    let k = of_keep unmarked_node nodes r.1 in
    (r.0, k.0, k.1, r.2)

-- L lines: in written order; the live links, and no others
pub links_rise : (g : Graph) → links_once g.links ≡ true → Written (live_links g)
links_rise g once = live_written g.nodes g.links once

pub links-all : (g : Graph) {r : Link} → Memᴰ r g.links → live_link g.nodes r ≡ true → Memᴰ r (live_links g)
links-all g m live = in_order_lem (keep (live_link g.nodes) g.links) (in_keep (live_link g.nodes) m live)

pub links-live : (g : Graph) {r : Link} → Memᴰ r (live_links g) → Memᴰ r g.links × (live_link g.nodes r ≡ true)
links-live g m = of_keep (live_link g.nodes) g.links (of_order (keep (live_link g.nodes) g.links) m)

-- the table's rows: by rising id; those of the old nodes, and no others
pub rows_rise : (nodes : List Node) → Sorted (old_segments nodes)
rows_rise nodes = rising_sorted (map forward nodes)

pub rows_all : (nodes : List Node) {r : Node} → Memᴰ r nodes → Memᴰ (forward r) (old_segments nodes)
rows_all nodes m = in_rising (Memᴰ.map forward m)

pub rows-old : (nodes : List Node) {u : Handle} → Memᴰ u (old_segments nodes) → (r : Node) × Memᴰ r nodes × (forward r ≡ u)
rows-old nodes m = Memᴰ.of_map forward nodes (of_rising (map forward nodes) m)
