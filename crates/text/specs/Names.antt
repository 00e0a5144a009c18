-- Segment names: 01 "Numbers that say no", 2.
use Rattle.std.specs.Prelude.{ℕ, Bool, false, cond, not, ◌&&◌, List, [], ◌∷◌, eqb, leb}
use Rattle.kit.specs.Decimal.{is_digit, value}
use Rattle.kit.specs.Loops.{all}
use Rattle.handle.specs.Handle.{max_id}

-- something stands there, and it does not begin with a zero
abbrev pub begins_well : List ℕ → Bool
begins_well [] = false
begins_well (b ∷ bs) = not (eqb b 48)

-- plain decimal in the id range, without a leading zero
abbrev pub is_name : List ℕ → Bool
is_name bs = begins_well bs && all is_digit bs && leb (value bs) max_id

-- the id that a name says, 0 where it is none
abbrev pub name_id : List ℕ → ℕ
name_id bs = cond (is_name bs) (value bs) 0
