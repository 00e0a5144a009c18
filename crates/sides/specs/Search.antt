-- What the code's search keeps, the lowest so far over links that stand in no order; and one definition for both sides.
use Rattle.std.specs.Prelude.{ℕ, Bool, cond, ◌&&◌, ◌||◌, List, [], ◌∷◌, eqb, ltb}
use Rattle.handle.specs.declared.Handle.{Handle}
use Rattle.store.specs.Graph.{Graph}
use Rattle.store.specs.declared.Link.{Link}
use Rattle.sides.specs.Sides.{right_ends, right_of, left_ends, left_of}

-- n where it is above a number and lower than the best so far, else that; 0 is none so far
abbrev pub lower : ℕ → ℕ → ℕ → ℕ
lower above n best = cond (ltb above n && (eqb best 0 || ltb n best)) n best

abbrev pub lowest : ℕ → ℕ → List Handle → ℕ
lowest above best [] = best
lowest above best (h ∷ hs) = lower above h.packed (lowest above best hs)

abbrev pub side_ends : Bool → Handle → Link → List Handle
side_ends left v r = cond left (left_ends v r) (right_ends v r)

abbrev pub side_of : Bool → Graph → Handle → List Handle
side_of left g v = cond left (left_of g v) (right_of g v)
