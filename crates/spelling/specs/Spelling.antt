-- Spelling a walk alone: 01 "Prefix, groups, collapse", last sentence. A walk is a list of oriented nodes.
use Rattle.std.specs.Prelude.{ℕ, ◌+◌, Bool, cond, List, [], ◌∷◌, ◌++◌, Option, Some, None}
use Rattle.kit.specs.Loops.{all, lines}
use Rattle.handle.specs.declared.Handle.{Handle}
use Rattle.handle.specs.Handle.{id_of, flip}
use Rattle.handle.specs.Edge.{edge}
use Rattle.store.specs.Graph.{Graph}
use Rattle.store.specs.declared.Node.{Node}
use Rattle.store.specs.declared.Link.{Link}
use Rattle.store.specs.Views.{stored, linked, spell}

-- reversed and flipped
abbrev pub turn_walk : List Handle → List Handle
turn_walk [] = []
turn_walk (h ∷ hs) = turn_walk hs ++ (flip h ∷ [])

-- 6: every step names a stored node, marked or not
abbrev pub all_stored : List Node → List Handle → Bool
all_stored nodes hs = all (λ h. stored (id_of h) nodes) hs

-- 23: the place of the first step with no stored link, marked or not, from the one before; h is the one before place i
abbrev pub gap_after : List Link → ℕ → Handle → List Handle → Option ℕ
gap_after links i h [] = None
gap_after links i h (k ∷ hs) = cond (linked (edge h k) links) (gap_after links (i + 1) k hs) (Some i)

abbrev pub first_gap : List Link → List Handle → Option ℕ
first_gap links [] = None
first_gap links (h ∷ hs) = gap_after links 1 h hs

-- the letters, each node's as it is oriented, case kept
abbrev pub spell_walk : Graph → List Handle → List ℕ
spell_walk g hs = lines (spell g) hs
