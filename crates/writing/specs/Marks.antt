-- How oriented nodes are written: 01 "Reading and writing"; 01 "Checked by hand", C8.
use Rattle.std.specs.Prelude.{ℕ, cond, List, [], ◌∷◌, ◌++◌, eqb}
use Rattle.kit.specs.Decimal.{decimal}
use Rattle.kit.specs.Loops.{lines}
use Rattle.handle.specs.declared.Handle.{Handle}
use Rattle.handle.specs.Handle.{id_of, dir_of}

-- + and -, in links and paths
abbrev pub sign_of : Handle → ℕ
sign_of h = cond (eqb (dir_of h) 0) 43 45

-- an end of a link, with the tabs around its sign
abbrev pub link_end : Handle → List ℕ
link_end h = decimal (id_of h) ++ (9 ∷ sign_of h ∷ 9 ∷ [])

-- > and <, in walks
abbrev pub arrow_of : Handle → ℕ
arrow_of h = cond (eqb (dir_of h) 0) 62 60

abbrev pub walk_step : Handle → List ℕ
walk_step h = arrow_of h ∷ decimal (id_of h)

unfoldable pub walk_text : List Handle → List ℕ
walk_text hs = lines walk_step hs

abbrev pub path_step : Handle → List ℕ
path_step h = decimal (id_of h) ++ (sign_of h ∷ [])

-- parted by commas
unfoldable pub path_text : List Handle → List ℕ
path_text [] = []
path_text (h ∷ []) = path_step h
path_text (h ∷ k ∷ hs) = path_step h ++ (44 ∷ path_text (k ∷ hs))
