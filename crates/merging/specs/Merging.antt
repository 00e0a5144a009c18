-- What a collapse makes of the graph: 01 "Prefix, groups, collapse", fourth entry. Members are oriented nodes, p the
-- length of the prefix that they give up; a member is long if it has more letters than p.
use Rattle.std.specs.Prelude.{ℕ, ◌-◌, Bool, cond, List, [], ◌∷◌, ◌++◌, map, eqb, ltb}
use Rattle.handle.specs.declared.Handle.{Handle}
use Rattle.handle.specs.declared.Edge.{Edge}
use Rattle.handle.specs.Handle.{id_of, dir_of, pack, flip, same_handle}
use Rattle.handle.specs.Edge.{edge, written}
use Rattle.store.specs.Graph.{Graph, node, link}
use Rattle.store.specs.declared.Node.{Node}
use Rattle.store.specs.declared.Link.{Link}
use Rattle.store.specs.Views.{named, len_of, linked}
use Rattle.sides.specs.Sides.{right_of}
use Rattle.split.specs.Split.{fresh_id, split}

abbrev pub is_long : ℕ → Graph → Handle → Bool
is_long p g m = ltb p (len_of g (id_of m))

abbrev pub is_forward : Handle → Bool
is_forward m = eqb (dir_of m) 0

-- a reversed member is split forward at length minus p
abbrev pub cut_at : ℕ → Graph → Handle → ℕ
cut_at p g m = cond (is_forward m) p (len_of g (id_of m) - p)

-- the member's first p letters, as oriented, stand alone
abbrev pub alone : ℕ → Graph → Handle → Graph
alone p g m = cond (is_long p g m) (split (id_of m) (cut_at p g m) g) g

-- which oriented node then has them, and which has a long member's rest; g is the graph before
abbrev pub prefix_of : ℕ → Graph → Handle → Handle
prefix_of p g m = cond (is_long p g m) (cond (is_forward m) m (pack (fresh_id g) 1)) m

abbrev pub suffix_of : Graph → Handle → Handle
suffix_of g m = cond (is_forward m) (pack (fresh_id g) 0) m

-- a link in its written form; one already stored is not made again
abbrev pub add_link : Edge → List Link → List Link
add_link e links = cond (linked e links) links (links ++ (link (written e) 0 ∷ []))

-- links from x to each of these, in their order
abbrev pub add_links : Handle → List Handle → List Link → List Link
add_links x [] links = links
add_links x (y ∷ ys) links = add_links x ys (add_link (edge x y) links)

abbrev pub joined : Handle → List Handle → Graph → Graph
joined x ys g = record { nodes = g.nodes; letters = g.letters; links = add_links x ys g.links }

-- the member itself is read as the shared node
abbrev pub read_as : Handle → Handle → Handle → Handle
read_as m x y = cond (same_handle y m) x (cond (same_handle y (flip m)) (flip x) y)

-- a marked node
abbrev pub mark_node : ℕ → Node → Node
mark_node id r = cond (named id r) (node r.id r.start r.len 1) r

abbrev pub marked : ℕ → Graph → Graph
marked id g = record { nodes = map (mark_node id) g.nodes; letters = g.letters; links = g.links }

-- to which nodes x, the shared node, is linked for a later member: a long one's suffix, or an exact one's live right
-- neighbours, read before any is added
abbrev pub passed : ℕ → Handle → Graph → Handle → List Handle
passed p x g m = cond (is_long p g m) (suffix_of g m ∷ []) (map (read_as m x) (right_of g m))

-- a later member: its prefix stands alone, x is linked, the prefix is marked
abbrev pub later : ℕ → Handle → Graph → Handle → Graph
later p x g m = marked (id_of (prefix_of p g m)) (joined x (passed p x g m) (alone p g m))

abbrev pub later_all : ℕ → Handle → Graph → List Handle → Graph
later_all p x g [] = g
later_all p x g (m ∷ ms) = later_all p x (later p x g m) ms

-- members in order; the first prefix is the shared node
abbrev pub shared_node : ℕ → Graph → List Handle → Handle
shared_node p g [] = record { packed = 0 }
shared_node p g (m ∷ ms) = prefix_of p g m

abbrev pub collapsed : ℕ → Graph → List Handle → Graph
collapsed p g [] = g
collapsed p g (m ∷ ms) = later_all p (prefix_of p g m) (alone p g m) ms
