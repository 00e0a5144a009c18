-- Steps of paths and walks, and the oriented nodes that they say: 01 "Numbers that say no", 1 and 2; 01 "Numbers that say
-- no", last paragraph, sign before name.
use Rattle.std.specs.Prelude.{ℕ, ◌-◌, Bool, true, cond, not, ◌||◌, List, [], ◌∷◌, map, eqb, length, take, drop, get_or}
use Rattle.handle.specs.declared.Handle.{Handle}
use Rattle.handle.specs.Handle.{pack}
use Rattle.text.specs.Pieces.{put_first, pieces}
use Rattle.text.specs.Names.{is_name, name_id}

-- an orientation: + is forward, - reverse
abbrev pub is_sign : ℕ → Bool
is_sign b = eqb b 43 || eqb b 45

abbrev pub sign_dir : ℕ → ℕ
sign_dir b = cond (eqb b 45) 1 0

-- a walk's signs: > is forward, < reverse
abbrev pub is_arrow : ℕ → Bool
is_arrow b = eqb b 62 || eqb b 60

abbrev pub arrow_dir : ℕ → ℕ
arrow_dir b = cond (eqb b 60) 1 0

-- a path's steps stand between commas; the last byte of a step is its sign, what comes before it the name
abbrev pub path_steps : List ℕ → List (List ℕ)
path_steps bs = pieces 44 bs

abbrev pub step_sign : List ℕ → ℕ
step_sign bs = get_or bs (length bs - 1) 0

abbrev pub step_name : List ℕ → List ℕ
step_name bs = take (length bs - 1) bs

abbrev pub path_step_number : List ℕ → ℕ
path_step_number bs = cond (not (is_sign (step_sign bs))) 1 (cond (not (is_name (step_name bs))) 2 0)

abbrev pub path_handle : List ℕ → Handle
path_handle bs = pack (name_id (step_name bs)) (sign_dir (step_sign bs))

-- a walk's steps begin at its arrows: cut before each of them
abbrev pub step_begins : List ℕ → Bool
step_begins [] = true
step_begins (b ∷ bs) = is_arrow b

abbrev pub walk_steps : List ℕ → List (List ℕ)
walk_steps [] = []
walk_steps (b ∷ bs) = cond (step_begins bs) ((b ∷ []) ∷ walk_steps bs) (put_first b (walk_steps bs))

abbrev pub walk_step_number : List ℕ → ℕ
walk_step_number bs =
    cond (not (is_arrow (get_or bs 0 0))) 1
    (cond (eqb (length bs) 1) 1
    (cond (not (is_name (drop 1 bs))) 2
    0))

abbrev pub walk_handle : List ℕ → Handle
walk_handle bs = pack (name_id (drop 1 bs)) (arrow_dir (get_or bs 0 0))

-- the oriented nodes of a path's field and of a walk's
abbrev pub path_handles : List ℕ → List Handle
path_handles bs = map path_handle (path_steps bs)

abbrev pub walk_handles : List ℕ → List Handle
walk_handles bs = map walk_handle (walk_steps bs)
