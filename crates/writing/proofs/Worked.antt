-- C8's graph after its collapse and its table, as text.
use mathlib.Core.Path.{◌≡◌, refl}
use mathlib.Core.List.{[], ◌∷◌}
use Rattle.kit.specs.Decimal.{decimal}
use Rattle.handle.specs.Handle.{flip, before}
use Rattle.handle.specs.Edge.{edge, edge_before}
use Rattle.store.specs.Graph.{Graph, node, link, handle}
use Rattle.events.specs.Events.{Rules, rule, step}
use Rattle.text.specs.Bytes.{bytes}
use Rattle.writing.specs.Marks.{walk_text}
use Rattle.writing.specs.GraphText.{graph_text, segment_line, link_line}
use Rattle.writing.specs.TableText.{table_text, table_line}

-- slots as the collapse leaves them: 3 is marked, and the links do not stand in written order
abbrev new : Graph
new =
    record {
      nodes = node 1 0 1 0 ∷ node 2 1 2 0 ∷ node 3 4 2 1 ∷ node 4 3 1 0 ∷ node 5 6 1 0 ∷ [];
      letters = bytes "AACGACT";
      links = link (edge (handle 2) (handle 4)) 0 ∷ link (edge (handle 2) (handle 6)) 0 ∷ link (edge (handle 4) (handle 10)) 0 ∷ link (edge (handle 4) (handle 8)) 0 ∷ link (edge (handle 6) (handle 10)) 0 ∷ [];
    }

graph : graph_text new ≡ bytes "S\t1\tA\nS\t2\tAC\nS\t4\tG\nS\t5\tT\nL\t1\t+\t2\t+\t0M\nL\t2\t+\t4\t+\t0M\nL\t2\t+\t5\t+\t0M\n"
unfolding segment_line link_line decimal before edge_before
graph = refl

abbrev old : Graph
old = record { nodes = node 2 1 3 0 ∷ node 1 0 1 0 ∷ node 3 4 3 0 ∷ []; letters = bytes "AACGACT"; links = [] }

abbrev table : Rules
table = record { rules = rule 2 3 0 2 ∷ rule 3 3 2 2 ∷ []; steps = step 4 2 ∷ step 8 1 ∷ step 4 2 ∷ step 10 1 ∷ [] }

rows : table_text old table ≡ bytes "original_node\ttransformed_walk\tbp_length\n2\t>2>4\t3\n3\t>2>5\t3\n"
unfolding table_line walk_text decimal before flip
rows = refl

-- the node itself reversed is printed
reversed : table_text (record { nodes = node 1 0 1 0 ∷ []; letters = bytes "A"; links = [] }) (record { rules = rule 1 1 0 1 ∷ []; steps = step 3 1 ∷ [] }) ≡ bytes "original_node\ttransformed_walk\tbp_length\n1\t<1\t1\n"
unfolding table_line walk_text decimal before flip
reversed = refl
