-- A store that is well formed, and what a faulty one gives: 01 "Numbers that say no", 13 and 5; 01 "Nodes, letters, links",
-- library limits. 13 does not lean on ids being unique: a repeated id is 5.
use Rattle.std.specs.Prelude.{ℕ, ◌+◌, ◌*◌, Bool, cond, not, ◌&&◌, List, eqb, leb, length}
use Rattle.kit.specs.Loops.{all, distinct}
use Rattle.letters.specs.Sequences.{all_letters}
use Rattle.handle.specs.Handle.{is_id, id_of}
use Rattle.handle.specs.Edge.{written, same_ends}
use Rattle.store.specs.declared.Counts.{Counts}
use Rattle.store.specs.Graph.{Graph, ends, graph_of, nodes_of}
use Rattle.store.specs.declared.Node.{Node}
use Rattle.store.specs.declared.Link.{Link}
use Rattle.store.specs.Views.{named, stored, span, unmarked_node}

-- counts inside the lent arrays and the limits
abbrev pub room_for : List ℕ → List ℕ → List ℕ → Counts → Bool
room_for nodes letters links c =
    (leb c.nodes 65536 && leb (4 * c.nodes) (length nodes))
    && (leb c.letters 16777216 && leb c.letters (length letters))
    && (leb c.links 131072 && leb (3 * c.links) (length links))

abbrev pub is_mark : ℕ → Bool
is_mark m = leb m 1

-- id and mark in range, at least one letter, start and length inside the letters in use, its bytes among the ten
abbrev pub good_node : List ℕ → Node → Bool
good_node letters r =
    is_id r.id && is_mark r.mark && leb 1 r.len && leb (r.start + r.len) (length letters) && all_letters (span letters r)

-- mark in range, in its written form, both ends stored
abbrev pub good_link : List Node → Link → Bool
good_link nodes r =
    is_mark r.mark && same_ends (written (ends r)) (ends r) && stored (id_of r.from) nodes && stored (id_of r.to) nodes

-- no link stored twice
abbrev pub links_once : List Link → Bool
links_once rs = distinct (λ r s. same_ends (ends r) (ends s)) rs

-- no id given twice
abbrev pub ids_once : List Node → Bool
ids_once rs = distinct (λ r s. named r.id s) rs

abbrev pub good_graph : Graph → Bool
good_graph g = all (good_node g.letters) g.nodes && all (good_link g.nodes) g.links && links_once g.links

abbrev pub well_formed : List ℕ → List ℕ → List ℕ → Counts → Bool
well_formed nodes letters links c = room_for nodes letters links c && good_graph (graph_of nodes letters links c)

-- an old graph has no marks: 01 "The eight conditions", last paragraph
abbrev pub unmarked_link : Link → Bool
unmarked_link r = eqb r.mark 0

abbrev pub unmarked : Graph → Bool
unmarked g = all unmarked_node g.nodes && all unmarked_link g.links

abbrev pub old_formed : List ℕ → List ℕ → List ℕ → Counts → Bool
old_formed nodes letters links c = well_formed nodes letters links c && unmarked (graph_of nodes letters links c)

-- 13, else 5, else 0
abbrev pub graph_number : List ℕ → List ℕ → List ℕ → Counts → ℕ
graph_number nodes letters links c =
    cond (not (well_formed nodes letters links c)) 13
    (cond (not (ids_once (nodes_of c.nodes nodes))) 5
    0)
