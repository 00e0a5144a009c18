-- The part that parse_header's face names: its bytes are the header's; a turn of the search for it.
use Prim.Native.Nat.{ℕ, ◌+◌, ◌-◌, ◌≤◌, ◌<◌}
use mathlib.Core.Path.{◌≡◌, refl, sym, ap, ◌∙◌}
use mathlib.Core.Bool.{Bool, true, false, cond}
use mathlib.Core.List.{List, [], ◌∷◌}
use native.Mathlib.Nat.{suc-add}
use native.Mathlib.Omega.{arith}
use lib.Dec.{eqb}
use lib.ListN.{length, take, drop, get_or, length-drop}
use lib.Seq.{drop-drop, take-length, length-take-le, get_or-take, get_or-drop}
use Rattle.kit.specs.Loops.{first_or}
use Rattle.text.specs.Header.{begins_with_h, header_of}
use Rattle.text.specs.Pieces.{put_first, pieces, lines_of}
use Rattle.text.specs.Search.{after, Piece}
use Rattle.face.specs.declared.parse_header.HeaderPart.{HeaderPart}
use Rattle.face.specs.ParseHeader.{part, header_from, header_part, bytes_of}

-- the pieces stand in the bytes one after another, a byte apart
abbrev Laid : List ℕ → List (List ℕ) → Type 0
Laid bs [] = Unit {0}
Laid bs (p ∷ ps) = (take (length p) bs ≡ p) × Laid (drop (length p + 1) bs) ps

laid-first : (b : ℕ) (bs : List ℕ) (ps : List (List ℕ)) → Laid bs ps → Laid (b ∷ bs) (put_first b ps)
laid-first b bs [] l = (refl, tt)
laid-first b bs (p ∷ ps) l = (ap (λ (q : List ℕ). b ∷ q) l.0, rw (suc-add (length p) 1) l.1)

laid : (sep : ℕ) (bs : List ℕ) → Laid bs (pieces sep bs)
laid sep [] = (refl, tt)
laid sep (b ∷ bs) = by (eqb b sep) (laid sep bs)
  where
    by : (t : Bool) → Laid bs (pieces sep bs) → Laid (b ∷ bs) (cond t ([] ∷ pieces sep bs) (put_first b (pieces sep bs)))
    by true l = (refl, l)
    by false l = laid-first b bs (pieces sep bs) l

from_laid : (text fallback : List ℕ) (at : ℕ) (rs : List (List ℕ)) → Laid (drop at text) rs → bytes_of (header_from fallback at rs) text fallback ≡ first_or fallback begins_with_h rs
from_laid text fallback at [] l = take-length fallback
from_laid text fallback at (line ∷ rs) l =
    let e : at + (length line + 1) ≡ at + length line + 1 = omega arith in
    let next : Laid (drop (at + length line + 1) text) rs = rw (← e, ← drop-drop (length line + 1) at text) l.1 in
    by (begins_with_h line) (from_laid text fallback (at + length line + 1) rs next)
  where
    by : (t : Bool) → bytes_of (header_from fallback (at + length line + 1) rs) text fallback ≡ first_or fallback begins_with_h rs → bytes_of (cond t (part 0 at (length line)) (header_from fallback (at + length line + 1) rs)) text fallback ≡ cond t line (first_or fallback begins_with_h rs)
    by true later = l.0
    by false later = later

-- the part that is named has the header's bytes
pub part-is_header : (text fallback : List ℕ) → bytes_of (header_part text fallback) text fallback ≡ header_of text fallback
part-is_header text fallback = from_laid text fallback 0 (lines_of text) (laid 10 text)

-- the line from `at` to r; m is what the search is to find
module _ {text : List ℕ} {at r : ℕ} (p : Piece 10 text at r) where
  abbrev line : List ℕ
  line = take (r - at) (drop at text)

  line-length : length line ≡ r - at
  line-length = length-take-le (r - at) (drop at text) (omega (arith, p.high, length-drop at text))

  -- whether it begins with H
  pub begins : at < r → eqb (get_or text at 0) 72 ≡ begins_with_h line
  begins h =
      let e : at + 0 ≡ at = omega arith in
      sym (ap (λ (b : ℕ). eqb b 72) (get_or-take (r - at) (drop at text) 0 0 (omega arith) ∙ get_or-drop at text 0 0 ∙ ap (λ (i : ℕ). get_or text i 0) e))

  pub empty_begins : r ≤ at → false ≡ begins_with_h line
  empty_begins h =
      let z : r - at ≡ 0 = omega arith in
      rw z

  module _ (fallback : List ℕ) {m : HeaderPart} (i : header_from fallback at (lines_of (drop at text)) ≡ m) where
    pub part-here : begins_with_h line ≡ true → part 0 at (r - at) ≡ m
    part-here t = rw (p.cut, t, line-length) at i

    pub part-later : begins_with_h line ≡ false → header_from fallback (r + 1) (after 10 text r) ≡ m
    part-later t =
        let e : at + (r - at) + 1 ≡ r + 1 = omega (arith, p.low) in
        rw (p.cut, t, line-length, e) at i
