-- The program's words and what each of them is (docs/PROGRAM.md).
use Rattle.std.specs.Prelude.{ℕ, ◌+◌, Bool, cond, ◌||◌, List, [], ◌∷◌, eqb, ltb, length, get_or, Option, Some, None}
use Rattle.text.specs.Pieces.{pieces}
use Rattle.cases.specs.Input.{same_word}
use Rattle.request.specs.declared.ask.Role.{Role}
use Rattle.request.specs.declared.ask.Role.TheVariants.{Out, Table, Ids, OutName, TableName, IdsName, Graph, Check, Unknown, Empty, Other}

-- all but the last
abbrev pub front : List (List ℕ) → List (List ℕ)
front [] = []
front (p ∷ []) = []
front (p ∷ q ∷ ps) = p ∷ front (q ∷ ps)

-- each word is ended by byte 0; what follows the last of them is no word
abbrev pub words_of : List ℕ → List (List ℕ)
words_of bs = front (pieces 0 bs)

-- what a word is that no option takes. A graph is `-` alone, or does not begin with it
abbrev pub kind_of : List ℕ → Role
kind_of w =
    cond (same_word w (45 ∷ 111 ∷ [])) OutName
    (cond (same_word w (45 ∷ 116 ∷ [])) TableName
    (cond (same_word w (45 ∷ 120 ∷ [])) IdsName
    (cond (same_word w (45 ∷ 99 ∷ [])) Check
    (cond (ltb (length w) 2) Graph (cond (eqb (get_or w 0 0) 45) Unknown Graph)))))

-- an option that takes a word takes the next one, whatever that looks like
abbrev pub taken_as : Option Role → List ℕ → Role
taken_as None w = kind_of w
taken_as (Some role) w = role

abbrev pub role_of : Option Role → List ℕ → Role
role_of wanted w = cond (eqb (length w) 0) Empty (taken_as wanted w)

-- what the next word is to be after this one; None is anything
abbrev pub wanted_after : Role → Option Role
wanted_after Out = None
wanted_after Table = None
wanted_after Ids = None
wanted_after OutName = Some Out
wanted_after TableName = Some Table
wanted_after IdsName = Some Ids
wanted_after Graph = None
wanted_after Check = None
wanted_after Unknown = None
wanted_after Empty = None
wanted_after Other = None

-- the roles by number, in their order from 1 on; any other number is no word's
abbrev pub role_numbered : ℕ → Role
role_numbered n =
    cond (eqb n 1) Out
    (cond (eqb n 2) Table
    (cond (eqb n 3) Ids
    (cond (eqb n 4) OutName
    (cond (eqb n 5) TableName
    (cond (eqb n 6) IdsName
    (cond (eqb n 7) Graph
    (cond (eqb n 8) Check
    (cond (eqb n 9) Unknown
    (cond (eqb n 10) Empty Other)))))))))

-- roles told apart by their place among them
abbrev pub place_of : Role → ℕ
place_of Out = 0
place_of Table = 1
place_of Ids = 2
place_of OutName = 3
place_of TableName = 4
place_of IdsName = 5
place_of Graph = 6
place_of Check = 7
place_of Unknown = 8
place_of Empty = 9
place_of Other = 10

abbrev pub same_role : Role → Role → Bool
same_role a b = eqb (place_of a) (place_of b)

-- the first word that is this, an empty one where there is none; how many there are
abbrev pub first_word : Role → Option Role → List (List ℕ) → List ℕ
first_word role wanted [] = []
first_word role wanted (w ∷ ws) = cond (same_role (role_of wanted w) role) w (first_word role (wanted_after (role_of wanted w)) ws)

abbrev pub count_words : Role → Option Role → List (List ℕ) → ℕ
count_words role wanted [] = 0
count_words role wanted (w ∷ ws) = cond (same_role (role_of wanted w) role) 1 0 + count_words role (wanted_after (role_of wanted w)) ws

-- no name and `-` are standard input or output
abbrev pub is_standard : List ℕ → Bool
is_standard name = eqb (length name) 0 || same_word name (45 ∷ [])
