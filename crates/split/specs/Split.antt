-- Split of forward v at k: 01 "Prefix, groups, collapse", third entry.
use Rattle.std.specs.Prelude.{ℕ, ◌+◌, ◌-◌, cond, List, [], ◌∷◌, ◌++◌, map}
use Rattle.handle.specs.declared.Handle.{Handle}
use Rattle.handle.specs.declared.Edge.{Edge}
use Rattle.handle.specs.Handle.{pack, flip, same_handle}
use Rattle.handle.specs.Edge.{edge, written}
use Rattle.store.specs.Graph.{Graph, node, link, ends}
use Rattle.store.specs.declared.Node.{Node}
use Rattle.store.specs.declared.Link.{Link}
use Rattle.store.specs.Views.{named, node_named, largest}

-- the largest id ever used, plus 1
abbrev pub fresh_id : Graph → ℕ
fresh_id g = largest g.nodes + 1

-- v keeps its first k letters; the others are as they are
abbrev pub cut : ℕ → ℕ → Node → Node
cut id k r = cond (named id r) (node r.id r.start k r.mark) r

-- the rest of v under the fresh id, with v's mark
abbrev pub rest : ℕ → ℕ → Node → Node
rest fresh k r = node fresh (r.start + k) (r.len - k) r.mark

-- an end on v's right is on the fresh node's right instead: v to .. and .. to flip v
abbrev pub move_ends : Handle → Handle → Edge → Edge
move_ends v f e =
    edge (cond (same_handle e.from v) f e.from) (cond (same_handle e.to (flip v)) (flip f) e.to)

-- in its slot, in its written form, with its mark
abbrev pub move_link : Handle → Handle → Link → Link
move_link v f r = link (written (move_ends v f (ends r))) r.mark

-- nodes and links after the split of the node `id` at k: one of each more, at the end
abbrev pub split_nodes : ℕ → ℕ → List Node → List Node
split_nodes id k rs = map (cut id k) rs ++ (rest (largest rs + 1) k (node_named id rs) ∷ [])

abbrev pub split_links : ℕ → ℕ → List Link → List Link
split_links id fresh rs = map (move_link (pack id 0) (pack fresh 0)) rs ++ (link (edge (pack id 0) (pack fresh 0)) 0 ∷ [])

abbrev pub split : ℕ → ℕ → Graph → Graph
split id k g =
    record { nodes = split_nodes id k g.nodes; letters = g.letters; links = split_links id (fresh_id g) g.links }
