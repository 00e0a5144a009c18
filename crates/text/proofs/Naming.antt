-- The laws of names: a turn of the loop that reads one, what a name says, and that writing an id and reading it are inverse.
use Prim.Native.Nat.{ℕ, ◌+◌, ◌-◌, ◌*◌, ◌≤◌, ◌<◌}
use mathlib.Core.Path.{◌≡◌, refl, sym, ap, ◌∙◌}
use mathlib.Core.Bool.{Bool, true, false, cond, not, ◌&&◌, and-false}
use mathlib.Core.List.{List, [], ◌∷◌}
use native.Mathlib.Omega.{arith}
use borrow.Author.Tests.{ne_eqb, eq-eqb, le-leb, lt-leb, not-true}
use lib.Dec.{eqb, leb}
use lib.ListN.{length, drop, get_or}
use Rattle.kit.specs.Decimal.{decimal, is_digit, value_from, value}
use Rattle.kit.specs.Loops.{all}
use Rattle.kit.proofs.Bools.{tests, never, and_true_l, and_true_r, not_of}
use Rattle.kit.proofs.Decimal.{decimal-digits, decimal-front, decimal-value, value-decimal}
use Rattle.kit.proofs.Steps.{left_at}
use Rattle.handle.specs.Handle.{max_id}
use Rattle.text.specs.Names.{begins_well, is_name, name_id}

pub value_grows : (n : ℕ) (bs : List ℕ) → n ≤ value_from n bs
value_grows n [] = omega arith
value_grows n (b ∷ bs) = omega (arith, value_grows (n * 10 + (b - 48)) bs)

-- the id that bytes say after those that say n: what is left to do of a name
abbrev pub id_from : ℕ → List ℕ → ℕ
id_from n bs = cond (all is_digit bs && leb (value_from n bs) max_id) (value_from n bs) 0

id_ill : (bs : List ℕ) → begins_well bs ≡ false → name_id bs ≡ 0
id_ill bs t = rw t

-- a zero comes first
pub id_leading : (bs : List ℕ) → get_or bs 0 0 ≡ 48 → name_id bs ≡ 0
id_leading [] h = refl
id_leading (b ∷ bs) h = id_ill (b ∷ bs) (ap not (eq-eqb b 48 h))

digit_low : (b : ℕ) → is_digit b ≡ true → 48 ≤ b
digit_low b t = let lo : leb 48 b ≡ true = and_true_l (leb 48 b) (leb b 57) t in omega (arith, tests)

-- a turn at place i, where what is left is what it was: one digit more, a number that is too large
module _ (bs : List ℕ) (i n : ℕ) (e : id_from n (drop i bs) ≡ name_id bs) where
  pub id_digit : i < length bs → is_digit (get_or bs i 0) ≡ true → id_from (n * 10 + (get_or bs i 0 - 48)) (drop (i + 1) bs) ≡ name_id bs
  id_digit h t = let p = left_at bs i 0 h in rw (p, t) at e

  pub id_large : max_id < n → 0 ≡ name_id bs
  id_large h =
      let p : leb (value_from n (drop i bs)) max_id ≡ false = lt-leb (value_from n (drop i bs)) max_id (omega (arith, value_grows n (drop i bs))) in
      rw (p, and-false) at e

-- a name's parts
module _ (bs : List ℕ) (t : is_name bs ≡ true) where
  plain : (begins_well bs && all is_digit bs) ≡ true
  plain = and_true_l (begins_well bs && all is_digit bs) (leb (value bs) max_id) t

  name_begins : begins_well bs ≡ true
  name_begins = and_true_l (begins_well bs) (all is_digit bs) plain

  pub name_digits : all is_digit bs ≡ true
  name_digits = and_true_r (begins_well bs) (all is_digit bs) plain

  name_range : leb (value bs) max_id ≡ true
  name_range = and_true_r (begins_well bs && all is_digit bs) (leb (value bs) max_id) t

-- a name's first digit is not 0
name_front : (b : ℕ) (bs : List ℕ) → is_name (b ∷ bs) ≡ true → 49 ≤ b
name_front b bs t =
    let f : eqb b 48 ≡ false = not-true (eqb b 48) (name_begins (b ∷ bs) t) in
    let d : is_digit b ≡ true = and_true_l (is_digit b) (all is_digit bs) (name_digits (b ∷ bs) t) in
    omega (arith, tests, digit_low b d)

pub name_some : (bs : List ℕ) → is_name bs ≡ true → 1 ≤ value bs
name_some [] t = never (sym t)
name_some (b ∷ bs) t = omega (arith, name_front b bs t, value_grows (0 * 10 + (b - 48)) bs)

-- writing what a name says gives the name
pub decimal_name : (bs : List ℕ) → is_name bs ≡ true → decimal (value bs) ≡ bs
decimal_name [] t = never (sym t)
decimal_name (b ∷ bs) t = decimal-value b bs (name_front b bs t) (name_digits (b ∷ bs) t)

begins : (bs : List ℕ) → 49 ≤ get_or bs 0 0 → begins_well bs ≡ true
begins [] h = absurd (omega arith)
begins (b ∷ bs) h = not_of (eqb b 48) (ne_eqb b 48 (λ e. omega arith))

-- an id in decimal is a name, and says the id
pub name_decimal : (n : ℕ) → 1 ≤ n → n ≤ max_id → is_name (decimal n) ≡ true
name_decimal n h k =
    rw (begins (decimal n) (decimal-front n h), decimal-digits n, value-decimal n) (le-leb n max_id k)

pub id_name : (bs : List ℕ) → is_name bs ≡ true → name_id bs ≡ value bs
id_name bs t = rw t

pub id-decimal : (n : ℕ) → 1 ≤ n → n ≤ max_id → name_id (decimal n) ≡ n
id-decimal n h k = id_name (decimal n) (name_decimal n h k) ∙ value-decimal n

-- 0 exactly where there is no name
pub id-zero : (bs : List ℕ) → eqb (name_id bs) 0 ≡ not (is_name bs)
id-zero bs = by (is_name bs) refl
  where
    by : (t : Bool) → is_name bs ≡ t → eqb (cond t (value bs) 0) 0 ≡ not t
    by true e = ne_eqb (value bs) 0 (λ q. omega (arith, name_some bs e))
    by false e = refl

pub id_range : (bs : List ℕ) → name_id bs ≤ max_id
id_range bs = by (is_name bs) refl
  where
    by : (t : Bool) → is_name bs ≡ t → cond t (value bs) 0 ≤ max_id
    by true e = omega (arith, tests, name_range bs e)
    by false e = omega arith
