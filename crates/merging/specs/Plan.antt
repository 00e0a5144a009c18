-- How the code makes a collapse. Whether the links fit is known only when all are made, so they are made in room of the
-- code's own, without the nodes: there a link's mark says that it is not live. The nodes follow by themselves.
use Rattle.std.specs.Prelude.{ℕ, ◌+◌, ◌-◌, Bool, cond, ◌||◌, List, [], ◌∷◌, map, eqb, ltb}
use Rattle.kit.specs.Loops.{keep, lines}
use Rattle.handle.specs.declared.Handle.{Handle}
use Rattle.handle.specs.Handle.{id_of, pack}
use Rattle.store.specs.Graph.{link, ends}
use Rattle.store.specs.declared.Node.{Node}
use Rattle.store.specs.declared.Link.{Link}
use Rattle.store.specs.Views.{node_named, largest, live_link}
use Rattle.formed.specs.WellFormed.{unmarked_link}
use Rattle.sides.specs.Sides.{rising, right_ends}
use Rattle.split.specs.Split.{split_nodes, split_links}
use Rattle.merging.specs.Merging.{is_forward, add_links, read_as, mark_node}

-- marked where it is not live
abbrev pub dim : List Node → Link → Link
dim nodes r = link (ends r) (cond (live_link nodes r) 0 1)

-- no link on a marked node is live
abbrev pub bury : ℕ → Link → Link
bury id r = cond (eqb (id_of r.from) id || eqb (id_of r.to) id) (link (ends r) 1) r

abbrev pub right_in : List Link → Handle → List Handle
right_in links v = rising (lines (right_ends v) (keep unmarked_link links))

-- a member by its length: long or not, the fresh id after it, its prefix and its suffix
abbrev pub long_by : ℕ → List Node → Handle → Bool
long_by p nodes m = ltb p (node_named (id_of m) nodes).len

abbrev pub fresh_after : ℕ → List Node → ℕ → Handle → ℕ
fresh_after p nodes fresh m = cond (long_by p nodes m) (fresh + 1) fresh

abbrev pub prefix_by : ℕ → List Node → ℕ → Handle → Handle
prefix_by p nodes fresh m = cond (long_by p nodes m) (cond (is_forward m) m (pack fresh 1)) m

abbrev pub prefix_if : Bool → ℕ → Handle → Handle
prefix_if long fresh m = cond long (cond (is_forward m) m (pack fresh 1)) m

abbrev pub suffix_by : ℕ → Handle → Handle
suffix_by fresh m = cond (is_forward m) (pack fresh 0) m

-- the links alone; `nodes` are those before the collapse
abbrev pub alone_links : ℕ → List Node → ℕ → List Link → Handle → List Link
alone_links p nodes fresh links m = cond (long_by p nodes m) (split_links (id_of m) fresh links) links

abbrev pub passed_by : ℕ → List Node → Handle → ℕ → List Link → Handle → List Handle
passed_by p nodes x fresh links m = cond (long_by p nodes m) (suffix_by fresh m ∷ []) (map (read_as m x) (right_in links m))

abbrev pub later_links : ℕ → List Node → Handle → ℕ → List Link → Handle → List Link
later_links p nodes x fresh links m =
    map (bury (id_of (prefix_by p nodes fresh m)))
    (add_links x (passed_by p nodes x fresh links m) (alone_links p nodes fresh links m))

abbrev pub later_links_all : ℕ → List Node → Handle → ℕ → List Link → List Handle → List Link
later_links_all p nodes x fresh links [] = links
later_links_all p nodes x fresh links (m ∷ ms) =
    later_links_all p nodes x (fresh_after p nodes fresh m) (later_links p nodes x fresh links m) ms

abbrev pub planned : ℕ → List Node → List Link → List Handle → List Link
planned p nodes links [] = links
planned p nodes links (m ∷ ms) =
    later_links_all p nodes (prefix_by p nodes (largest nodes + 1) m) (fresh_after p nodes (largest nodes + 1) m)
    (alone_links p nodes (largest nodes + 1) links m) ms

-- the links back in their place: new ends, old marks, and none on those that are new
abbrev pub remark : List Link → List Link → List Link
remark old [] = []
remark [] (r ∷ rs) = link (ends r) 0 ∷ remark [] rs
remark (o ∷ old) (r ∷ rs) = link (ends r) o.mark ∷ remark old rs

-- the nodes alone
abbrev pub cut_by : ℕ → List Node → Handle → ℕ
cut_by p nodes m = cond (is_forward m) p ((node_named (id_of m) nodes).len - p)

abbrev pub alone_nodes : ℕ → List Node → Handle → List Node
alone_nodes p nodes m = cond (long_by p nodes m) (split_nodes (id_of m) (cut_by p nodes m) nodes) nodes

abbrev pub later_nodes : ℕ → List Node → Handle → List Node
later_nodes p nodes m = map (mark_node (id_of (prefix_by p nodes (largest nodes + 1) m))) (alone_nodes p nodes m)

abbrev pub later_nodes_all : ℕ → List Node → List Handle → List Node
later_nodes_all p nodes [] = nodes
later_nodes_all p nodes (m ∷ ms) = later_nodes_all p (later_nodes p nodes m) ms

abbrev pub merged_nodes : ℕ → List Node → List Handle → List Node
merged_nodes p nodes [] = nodes
merged_nodes p nodes (m ∷ ms) = later_nodes_all p (alone_nodes p nodes m) ms
