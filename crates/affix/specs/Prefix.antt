-- The shared prefix: 01 "Prefix, groups, collapse", first entry.
use Rattle.std.specs.Prelude.{ℕ, Bool, false, cond, ◌&&◌, eqb}
use mathlib.Core.List.{List, [], ◌∷◌, map, tail}
use Rattle.kit.specs.Loops.{all, distinct}
use Rattle.letters.specs.Letters.{same_letter, is_base}
use Rattle.handle.specs.declared.Handle.{Handle}
use Rattle.handle.specs.Handle.{id_of}
use Rattle.store.specs.Graph.{Graph, handle}
use Rattle.store.specs.declared.Node.{Node}
use Rattle.store.specs.Views.{live_node, spell}

-- the sequence begins with this letter, case aside
abbrev pub begins_with : ℕ → List ℕ → Bool
begins_with a [] = false
begins_with a (b ∷ s) = same_letter a b

-- the letters of s as long as they are of A, C, G, T and every other sequence has the same
abbrev pub shared : List ℕ → List (List ℕ) → List ℕ
shared [] others = []
shared (a ∷ s) others = cond (is_base a && all (begins_with a) others) (a ∷ shared s (map tail others)) []

-- the letters are the first one's
abbrev pub shared_prefix : List (List ℕ) → List ℕ
shared_prefix [] = []
shared_prefix (s ∷ others) = shared s others

-- members are lent as packed numbers
abbrev pub handles_of : List ℕ → List Handle
handles_of ns = map handle ns

-- 8: a member absent or marked, or one node twice, either way round
abbrev pub members_live : List Node → List Handle → Bool
members_live nodes ms = all (λ h. live_node (id_of h) nodes) ms

abbrev pub members_once : List Handle → Bool
members_once ms = distinct (λ u v. eqb (id_of u) (id_of v)) ms

abbrev pub group_prefix : Graph → List Handle → List ℕ
group_prefix g ms = shared_prefix (map (spell g) ms)
