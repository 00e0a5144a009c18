-- Where the pieces of bytes end, and what a caller gets of a piece's end.
use Prim.Native.Nat.{ℕ, suc, ◌+◌, ◌-◌, ◌≤◌, ◌<◌}
use mathlib.Core.Path.{◌≡◌, refl, sym, ap, ◌∙◌}
use mathlib.Core.Bool.{Bool, true, false, cond, ◌||◌}
use mathlib.Core.List.{List, [], ◌∷◌}
use native.Mathlib.Omega.{arith}
use borrow.Author.Tests.{eq-eqb, ne_eqb, eqb-true, eqb-false, lt-ltb, le-ltb, le-leb}
use lib.Dec.{eqb, ltb, leb}
use lib.ListN.{length, take, drop, get_or}
use lib.Seq.{take-nil, drop-length, length-take-le, get_or-take}
use Rattle.kit.specs.Loops.{any}
use Rattle.kit.proofs.Bools.{tests, eqb_sym}
use Rattle.kit.proofs.Steps.{left_at}
use Rattle.text.specs.Pieces.{put_first, pieces, field, is_line}
use Rattle.text.specs.Search.{Piece}

module _ (sep : ℕ) (bs : List ℕ) where
  -- a turn of the search: at the separator, past another byte, at the end
  pub piece_hit : (i : ℕ) → i < length bs → get_or bs i 0 ≡ sep → Piece sep bs i i
  piece_hit i h e =
      let z : i - i ≡ 0 = omega arith in
      let t = eq-eqb (get_or bs i 0) sep e in
      let n = ne_eqb i (length bs) (omega arith) in
      record { low = omega arith; high = omega arith; cut = rw (left_at bs i 0 h, z, t, n) }

  pub piece_miss : (i : ℕ) → i < length bs → (get_or bs i 0 ≡ sep → ⊥) → (r : ℕ) → Piece sep bs (i + 1) r → Piece sep bs i r
  piece_miss i h e r p =
      let z : r - i ≡ suc (r - (i + 1)) = omega (arith, p.low) in
      let t = ne_eqb (get_or bs i 0) sep e in
      record { low = omega (arith, p.low); high = p.high; cut = rw (left_at bs i 0 h, z, t, p.cut) }

  pub piece_none : (i : ℕ) → i ≡ length bs → Piece sep bs i (length bs)
  piece_none i e =
      let n = eq-eqb (length bs) (length bs) refl in
      record { low = omega arith; high = omega arith; cut = rw (e, drop-length bs, n, take-nil) }

-- there always is a piece
pub pieces_some : (sep : ℕ) (bs : List ℕ) → 1 ≤ length (pieces sep bs)
pieces_some sep [] = omega arith
pieces_some sep (b ∷ bs) = by (eqb b sep) (pieces sep bs) (pieces_some sep bs)
  where
    by : (t : Bool) (ps : List (List ℕ)) → 1 ≤ length ps → 1 ≤ length (cond t ([] ∷ ps) (put_first b ps))
    by true ps h = omega arith
    by false [] h = omega arith
    by false (p ∷ ps) h = h

pub enough : (sep : ℕ) (bs : List ℕ) (n : ℕ) → n ≤ 1 → leb n (length (pieces sep bs)) ≡ true
enough sep bs n h = le-leb n (length (pieces sep bs)) (omega (arith, pieces_some sep bs))

-- and more than one where the separator stands
pieces-many : (sep : ℕ) (bs : List ℕ) → any (eqb sep) bs ≡ ltb 1 (length (pieces sep bs))
pieces-many sep [] = refl
pieces-many sep (b ∷ bs) =
    ap (λ (t : Bool). t || any (eqb sep) bs) (eqb_sym sep b)
    ∙ by (eqb b sep) (pieces sep bs) (pieces_some sep bs) (pieces-many sep bs)
  where
    by : (t : Bool) (ps : List (List ℕ)) → 1 ≤ length ps → any (eqb sep) bs ≡ ltb 1 (length ps) → (t || any (eqb sep) bs) ≡ ltb 1 (length (cond t ([] ∷ ps) (put_first b ps)))
    by true ps h e = sym (lt-ltb 1 (suc (length ps)) (omega arith))
    by false [] h e = e
    by false (p ∷ ps) h e = e

-- what is known of a piece's end: the piece, and those after it
module _ {sep : ℕ} {bs : List ℕ} {from r : ℕ} (p : Piece sep bs from r) where
  pub piece_first : get_or (pieces sep (drop from bs)) 0 [] ≡ take (r - from) (drop from bs)
  piece_first = rw p.cut

  pub piece_last : r ≡ length bs → pieces sep (drop from bs) ≡ take (r - from) (drop from bs) ∷ []
  piece_last e = p.cut ∙ ap (λ (t : Bool). take (r - from) (drop from bs) ∷ cond t [] (pieces sep (drop (r + 1) bs))) (eq-eqb r (length bs) e)

  pub piece_more : (r ≡ length bs → ⊥) → pieces sep (drop from bs) ≡ take (r - from) (drop from bs) ∷ pieces sep (drop (r + 1) bs)
  piece_more e = p.cut ∙ ap (λ (t : Bool). take (r - from) (drop from bs) ∷ cond t [] (pieces sep (drop (r + 1) bs))) (ne_eqb r (length bs) e)

  -- the piece of number k from `from` on: this one; else there is none, or it is the one of number k - 1 after this one
  pub nth_here : (k : ℕ) → k ≡ 0 → get_or (pieces sep (drop from bs)) k [] ≡ take (r - from) (drop from bs)
  nth_here k e = rw (e, p.cut)

  pub no_nth : (k : ℕ) → 0 < k → r ≡ length bs → get_or (pieces sep (drop from bs)) k [] ≡ []
  no_nth k h e =
      let z : k ≡ suc (k - 1) = omega arith in
      rw (piece_last e, z)

  pub nth_later : (k : ℕ) → 0 < k → (r ≡ length bs → ⊥) → get_or (pieces sep (drop from bs)) k [] ≡ get_or (pieces sep (drop (r + 1) bs)) (k - 1) []
  nth_later k h e =
      let z : k ≡ suc (k - 1) = omega arith in
      rw (piece_more e) (ap (λ (j : ℕ). get_or (take (r - from) (drop from bs) ∷ pieces sep (drop (r + 1) bs)) j []) z)

  -- the separator stands there exactly when the piece does not go to the end
  pub has_separator : any (eqb sep) (drop from bs) ≡ ltb r (length bs)
  has_separator = pieces-many sep (drop from bs) ∙ by (eqb r (length bs)) refl
    where
      by : (t : Bool) → eqb r (length bs) ≡ t → ltb 1 (length (pieces sep (drop from bs))) ≡ ltb r (length bs)
      by true e = rw (piece_last (eqb-true r (length bs) e)) (sym (le-ltb r (length bs) (omega (arith, tests))))
      by false e =
          let q = eqb-false r (length bs) e in
          let m : ℕ = length (pieces sep (drop (r + 1) bs)) in
          let some = pieces_some sep (drop (r + 1) bs) in
          rw (piece_more q) (lt-ltb 1 (suc m) (omega arith) ∙ sym (lt-ltb r (length bs) (omega (arith, p.high))))

-- a line's first field
module _ (letter : ℕ) {line : List ℕ} {r : ℕ} (p : Piece 9 line 0 r) where
  first-length : length (field 0 line) ≡ r
  first-length = ap length (piece_first p) ∙ length-take-le (r - 0) line (omega (arith, p.high)) ∙ omega arith

  pub line_other : (r ≡ 1 → ⊥) → is_line letter line ≡ false
  line_other e = rw (first-length, ne_eqb r 1 e)

  pub line-one : r ≡ 1 → is_line letter line ≡ eqb (get_or line 0 0) letter
  line-one e =
      rw (first-length, eq-eqb r 1 e)
      (ap (λ (b : ℕ). eqb b letter) (ap (λ (f : List ℕ). get_or f 0 0) (piece_first p) ∙ get_or-take (r - 0) line 0 0 (omega arith)))
