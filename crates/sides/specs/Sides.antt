-- Live neighbours: 01 "Prefix, groups, collapse", groups of v. They come by rising id, forward before reverse, which is
-- the order of packed numbers, each once.
use Rattle.std.specs.Prelude.{ℕ, Bool, cond, ◌&&◌, List, [], ◌∷◌, ◌++◌, Option, Some, None, ltb, get_or}
use Rattle.kit.specs.Loops.{first_or, all, keep, lines}
use Rattle.handle.specs.declared.Handle.{Handle}
use Rattle.handle.specs.Handle.{flip, same_handle, before}
use Rattle.handle.specs.Edge.{edge}
use Rattle.store.specs.declared.Counts.{Counts}
use Rattle.store.specs.Graph.{Graph, handle, nodes_of, links_of}
use Rattle.store.specs.declared.Link.{Link}
use Rattle.store.specs.Views.{live_link, live_linked}

-- x put where it belongs in a rising list, or the list as it is where x stands in it
abbrev pub insert_once : Handle → List Handle → List Handle
insert_once x [] = x ∷ []
insert_once x (y ∷ ys) = cond (before x y) (x ∷ y ∷ ys) (cond (same_handle x y) (y ∷ ys) (y ∷ insert_once x ys))

abbrev pub rising : List Handle → List Handle
rising [] = []
rising (x ∷ xs) = insert_once x (rising xs)

-- where a link leads from v: by its own form, and by its other one
abbrev pub right_ends : Handle → Link → List Handle
right_ends v r = cond (same_handle r.from v) (r.to ∷ []) [] ++ cond (same_handle (flip r.to) v) (flip r.from ∷ []) []

-- the live right neighbours of v, and its live left ones: those to whose right v stands
abbrev pub right_of : Graph → Handle → List Handle
right_of g v = rising (lines (right_ends v) (keep (live_link g.nodes) g.links))

abbrev pub left_ends : Handle → Link → List Handle
left_ends v r = cond (same_handle r.to v) (r.from ∷ []) [] ++ cond (same_handle (flip r.from) v) (flip r.to ∷ []) []

abbrev pub left_of : Graph → Handle → List Handle
left_of g v = rising (lines (left_ends v) (keep (live_link g.nodes) g.links))

-- every live left neighbour of u is one of v; the two have the same set of them
abbrev pub left_in : Graph → Handle → Handle → Bool
left_in g u v = all (λ w. live_linked g (edge w v)) (left_of g u)

abbrev pub same_left : Graph → Handle → Handle → Bool
same_left g u v = left_in g u v && left_in g v u

-- "by rising id, forward before reverse", one at a time: the packed number of the first of a rising list above a number,
-- and of the k-th, counted from 0; 0 where there is none
abbrev pub next_above : ℕ → List Handle → ℕ
next_above above hs = (first_or (handle 0) (λ h. ltb above h.packed) hs).packed

-- the number of the one that was found; 0 is none
abbrev pub packed_of : Option Handle → ℕ
packed_of None = 0
packed_of (Some h) = h.packed

abbrev pub nth_of : ℕ → List Handle → ℕ
nth_of k hs = (get_or hs k (handle 0)).packed

-- the graph in two lent arrays: no neighbour is told by a letter
abbrev pub bare : List ℕ → List ℕ → Counts → Graph
bare nodes links c = record { nodes = nodes_of c.nodes nodes; letters = []; links = links_of c.links links }
