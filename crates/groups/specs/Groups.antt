-- Groups of v: 01 "Prefix, groups, collapse", second entry.
use Rattle.std.specs.Prelude.{ℕ, ◌+◌, Bool, cond, not, ◌&&◌, List, [], ◌∷◌, ◌++◌, map, reverse, eqb, length, drop}
use Rattle.kit.specs.Loops.{any, keep, lines}
use Rattle.letters.specs.Letters.{same_letter}
use Rattle.handle.specs.declared.Handle.{Handle}
use Rattle.handle.specs.Handle.{dir_of}
use Rattle.store.specs.Graph.{Graph}
use Rattle.store.specs.Views.{letter_of}
use Rattle.sides.specs.Sides.{right_of, same_left}

-- the key: first letter in upper case, and the set of live left neighbours
abbrev pub same_key : Graph → Handle → Handle → Bool
same_key g u w = same_letter (letter_of g u 0) (letter_of g w 0) && same_left g u w

abbrev pub is_reverse : Handle → Bool
is_reverse h = eqb (dir_of h) 1

-- within a group: reversed ones first, last met first; then forward ones as met
abbrev pub arranged : List Handle → List Handle
arranged ms = reverse (keep is_reverse ms) ++ keep (λ h. not (is_reverse h)) ms

-- those with a key that none before them has: one for each group, in the order in which the groups stand
abbrev pub heads : Graph → List Handle → List Handle → List Handle
heads g met [] = []
heads g met (u ∷ us) = cond (any (same_key g u) met) (heads g (met ++ (u ∷ [])) us) (u ∷ heads g (met ++ (u ∷ [])) us)

-- all of u's key among those met
abbrev pub group_of : Graph → List Handle → Handle → List Handle
group_of g us u = arranged (keep (same_key g u) us)

abbrev pub groups_of : Graph → Handle → List (List Handle)
groups_of g v = map (group_of g (right_of g v)) (heads g [] (right_of g v))

-- how they are handed out: the members one group after another, and where each group ends
abbrev pub members_of : List (List Handle) → List Handle
members_of gs = lines (λ ms. ms) gs

abbrev pub numbers : List Handle → List ℕ
numbers hs = map (λ h. h.packed) hs

abbrev pub ends_from : ℕ → List (List Handle) → List ℕ
ends_from n [] = []
ends_from n (ms ∷ gs) = (n + length ms) ∷ ends_from (n + length ms) gs

-- these numbers from the front of a lent array, then what stood after them
abbrev pub over : List ℕ → List ℕ → List ℕ
over vs l = vs ++ drop (length vs) l
