-- One letter, as its byte.
use Rattle.std.specs.Prelude.{ℕ, ◌-◌, Bool, cond, not, ◌&&◌, eqb, leb}

-- 01 "Nodes, letters, links", reversed nodes: a letter's partner, and 0 for a byte that is no letter
unfoldable pub complement_of : ℕ → ℕ
complement_of b =
    cond (eqb b 65) 84
    (cond (eqb b 67) 71
    (cond (eqb b 71) 67
    (cond (eqb b 84) 65
    (cond (eqb b 78) 78
    (cond (eqb b 97) 116
    (cond (eqb b 99) 103
    (cond (eqb b 103) 99
    (cond (eqb b 116) 97
    (cond (eqb b 110) 110
    0)))))))))

-- 01 "Nodes, letters, links", the ten: those with a partner
unfoldable pub is_letter : ℕ → Bool
is_letter b = not (eqb (complement_of b) 0)

-- 01 "Nodes, letters, links", spelling: ASCII upper case
unfoldable pub upper_of : ℕ → ℕ
upper_of b = cond (leb 97 b && leb b 122) (b - 32) b

-- 01 "Nodes, letters, links", spelling: one letter, case aside
abbrev pub same_letter : ℕ → ℕ → Bool
same_letter a b = eqb (upper_of a) (upper_of b)

-- 01 "Prefix, groups, collapse", shared prefix: a letter that may stand in one, so no N
unfoldable pub is_base : ℕ → Bool
is_base b = is_letter b && not (eqb (upper_of b) 78)
