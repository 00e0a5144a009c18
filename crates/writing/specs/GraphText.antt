-- The live part of a graph as text: 01 "Reading and writing", output.
use Rattle.std.specs.Prelude.{ℕ, List, [], ◌∷◌, ◌++◌, map}
use Rattle.kit.specs.Decimal.{decimal}
use Rattle.kit.specs.Loops.{keep, lines}
use Rattle.handle.specs.declared.Handle.{Handle}
use Rattle.handle.specs.Handle.{id_of, pack}
use Rattle.store.specs.Graph.{Graph}
use Rattle.store.specs.declared.Node.{Node}
use Rattle.store.specs.declared.Link.{Link}
use Rattle.store.specs.Views.{unmarked_node, live_link, spell}
use Rattle.sides.specs.Sides.{rising}
use Rattle.text.specs.Bytes.{bytes}
use Rattle.writing.specs.Marks.{sign_of}
use Rattle.store.specs.Order.{written_order}

-- S, name, letters
unfoldable pub segment_line : Graph → Handle → List ℕ
segment_line g h = bytes "S\t" ++ decimal (id_of h) ++ bytes "\t" ++ spell g h ++ bytes "\n"

-- L, first, sign, second, sign, overlap
unfoldable pub link_line : Link → List ℕ
link_line r =
    bytes "L\t" ++ decimal (id_of r.from) ++ (9 ∷ sign_of r.from ∷ 9 ∷ []) ++ decimal (id_of r.to) ++ (9 ∷ sign_of r.to ∷ [])
    ++ bytes "\t0M\n"

-- live nodes, forward, by rising id
abbrev pub live_segments : List Node → List Handle
live_segments nodes = rising (map (λ r. pack r.id 0) (keep unmarked_node nodes))

-- live links in written order
abbrev pub live_links : Graph → List Link
live_links g = written_order (keep (live_link g.nodes) g.links)

abbrev pub graph_text : Graph → List ℕ
graph_text g = lines (segment_line g) (live_segments g.nodes) ++ lines link_line (live_links g)
