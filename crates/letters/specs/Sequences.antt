-- Sequences of letters, and what a node reads in a direction: 0 is forward, any other number reverse.
use Rattle.std.specs.Prelude.{ℕ, ◌-◌, Bool, true, false, cond, ◌&&◌, List, [], ◌∷◌, map, reverse, eqb, length, get_or}
use Rattle.kit.specs.Loops.{all}
use Rattle.letters.specs.Letters.{complement_of, is_letter, upper_of, same_letter}

-- 01 "Nodes, letters, links", the ten: nothing else stands in s
abbrev pub all_letters : List ℕ → Bool
all_letters s = all is_letter s

-- 01 "Nodes, letters, links", reversed nodes: what a node of letters s reads reversed
abbrev pub rev_comp : List ℕ → List ℕ
rev_comp s = reverse (map complement_of s)

-- 01 "Nodes, letters, links", oriented nodes: what it reads in a direction
abbrev pub oriented : ℕ → List ℕ → List ℕ
oriented dir s = cond (eqb dir 0) s (rev_comp s)

-- 01 "Nodes, letters, links", oriented nodes: what stands at place i of that
abbrev pub letter_at : List ℕ → ℕ → ℕ → ℕ
letter_at s dir i = cond (eqb dir 0) (get_or s i 0) (complement_of (get_or s (length s - 1 - i) 0))

-- 01 "Nodes, letters, links", spelling: what is compared
abbrev pub upper_seq : List ℕ → List ℕ
upper_seq s = map upper_of s

-- 01 "Nodes, letters, links", spelling: the comparison
abbrev pub same_spelling : List ℕ → List ℕ → Bool
same_spelling [] [] = true
same_spelling [] (b ∷ t) = false
same_spelling (a ∷ s) [] = false
same_spelling (a ∷ s) (b ∷ t) = same_letter a b && same_spelling s t
