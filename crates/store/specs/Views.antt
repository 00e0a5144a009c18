-- Lookups and views: 01 "Nodes, letters, links". Each is over the graph's records and says nothing of how it is searched.
use Rattle.std.specs.Prelude.{ℕ, max, Bool, cond, ◌&&◌, List, [], ◌∷◌, eqb, take, drop, Option}
use Rattle.kit.specs.Loops.{find, first_or, any, sum}
use Rattle.letters.specs.Sequences.{oriented, letter_at}
use Rattle.handle.specs.declared.Handle.{Handle}
use Rattle.handle.specs.Handle.{id_of, dir_of}
use Rattle.handle.specs.declared.Edge.{Edge}
use Rattle.handle.specs.Edge.{same_link}
use Rattle.store.specs.Graph.{Graph, node, ends}
use Rattle.store.specs.declared.Node.{Node}
use Rattle.store.specs.declared.Link.{Link}

abbrev pub named : ℕ → Node → Bool
named id r = eqb r.id id

-- the slot of the node with an id
abbrev pub find_node : ℕ → List Node → Option ℕ
find_node id rs = find (named id) rs

-- a node with this id is stored, marked or not
abbrev pub stored : ℕ → List Node → Bool
stored id rs = any (named id) rs

-- the first node with an id; one with no letters where there is none
abbrev pub node_named : ℕ → List Node → Node
node_named id rs = first_or (node 0 0 0 0) (named id) rs

abbrev pub len_of : Graph → ℕ → ℕ
len_of g id = (node_named id g.nodes).len

-- a node is live if unmarked
abbrev pub unmarked_node : Node → Bool
unmarked_node r = eqb r.mark 0

abbrev pub live_here : ℕ → Node → Bool
live_here id r = named id r && unmarked_node r

abbrev pub live_node : ℕ → List Node → Bool
live_node id rs = any (live_here id) rs

-- the largest id stored, marked nodes count; 0 where there is none
abbrev pub largest : List Node → ℕ
largest [] = 0
largest (r ∷ rs) = max r.id (largest rs)

-- the letters of the live nodes
abbrev pub live_len : Node → ℕ
live_len r = cond (unmarked_node r) r.len 0

abbrev pub live_letters : List Node → ℕ
live_letters rs = sum live_len rs

-- a node's own letters, forward
abbrev pub span : List ℕ → Node → List ℕ
span letters r = take r.len (drop r.start letters)

-- what an oriented node reads, and its letter at place i
abbrev pub spell : Graph → Handle → List ℕ
spell g h = oriented (dir_of h) (span g.letters (node_named (id_of h) g.nodes))

abbrev pub letter_of : Graph → Handle → ℕ → ℕ
letter_of g h i = letter_at (span g.letters (node_named (id_of h) g.nodes)) (dir_of h) i

-- a link with these ends, in whichever form they are given
abbrev pub joins : Edge → Link → Bool
joins e r = same_link e (ends r)

-- its slot, and whether it is stored, marked or not
abbrev pub find_link : Edge → List Link → Option ℕ
find_link e rs = find (joins e) rs

abbrev pub linked : Edge → List Link → Bool
linked e rs = any (joins e) rs

-- a link is live if unmarked and both ends are live
abbrev pub live_link : List Node → Link → Bool
live_link nodes r = eqb r.mark 0 && live_node (id_of r.from) nodes && live_node (id_of r.to) nodes

-- there is a live link with these ends
abbrev pub joins_live : List Node → Edge → Link → Bool
joins_live nodes e r = joins e r && live_link nodes r

abbrev pub live_linked : Graph → Edge → Bool
live_linked g e = any (joins_live g.nodes e) g.links
