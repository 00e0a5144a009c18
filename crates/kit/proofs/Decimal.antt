-- The laws of `decimal`: what a number below ten is, what a larger one is, how long; digits only, the shortest form, and
-- that reading and writing are inverse.
use Prim.Native.Nat.{ℕ, zero, suc, ◌+◌, ◌-◌, ◌*◌, ◌/◌, ◌%◌, ◌^◌, ◌≤◌, ◌<◌}
use mathlib.Core.Path.{◌≡◌, refl, sym, ap, ◌∙◌}
use mathlib.Core.Bool.{Bool, true, false}
use mathlib.Core.List.{List, [], ◌∷◌, ◌++◌, append-nil, append_assoc}
use native.Mathlib.Nat.{not-suc-le-zero}
use native.Mathlib.Omega.{arith}
use borrow.Author.Tests.{ltb-true, ltb-false, lt-ltb, le-ltb, le-leb}
use lib.Dec.{ltb, leb}
use lib.ListN.{length, get_or, length-append, get_or-append}
use Rattle.kit.specs.Decimal.{digits, decimal, is_digit, value_from, value}
use Rattle.kit.specs.Loops.{all}
use Rattle.kit.proofs.Bools.{tests, and_both, and_true_l, and_true_r}
use Rattle.kit.proofs.Meaning.{all_append}

-- more fuel than the number changes nothing
fuel : (k m : ℕ) (b : Bool) (n : ℕ) → ltb n 10 ≡ b → n < k → n < m → digits k b n ≡ digits m b n
fuel zero m b n e h g = absurd (not-suc-le-zero h)
fuel (suc k) zero b n e h g = absurd (not-suc-le-zero g)
fuel (suc k) (suc m) true n e h g = refl
fuel (suc k) (suc m) false n e h g =
    let t : 10 ≤ n = ltb-false n 10 e in
    ap (λ (l : List ℕ). l ++ ((48 + (n % 10)) ∷ [])) (fuel k m (ltb (n / 10) 10) (n / 10) refl (omega arith) (omega arith))

pub decimal-small : (n : ℕ) → n < 10 → decimal n ≡ (48 + n) ∷ []
unfolding decimal
decimal-small n h = rw (lt-ltb n 10 h)

pub decimal_big : (n : ℕ) → 10 ≤ n → decimal n ≡ decimal (n / 10) ++ ((48 + (n % 10)) ∷ [])
unfolding decimal
decimal_big n h =
    rw (le-ltb n 10 h)
    (ap (λ (l : List ℕ). l ++ ((48 + (n % 10)) ∷ [])) (fuel n (suc (n / 10)) (ltb (n / 10) 10) (n / 10) refl (omega arith) (omega arith)))

pub length-small : (n : ℕ) → n < 10 → length (decimal n) ≡ 1
length-small n h = rw (decimal-small n h)

pub length_big : (n : ℕ) → 10 ≤ n → length (decimal n) ≡ length (decimal (n / 10)) + 1
length_big n h = rw (decimal_big n h) (length-append (decimal (n / 10)) ((48 + (n % 10)) ∷ []))

-- a number below 10 ^ (k + 1) has at most k + 1 digits
short : (k n : ℕ) (b : Bool) → ltb n 10 ≡ b → n < 10 ^ suc k → length (decimal n) ≤ suc k
short zero n true e h = omega (arith, length-small n (ltb-true n 10 e))
short (suc k) n true e h = omega (arith, length-small n (ltb-true n 10 e))
short zero n false e h = absurd (omega (arith, ltb-false n 10 e))
short (suc k) n false e h =
    let g : n / 10 < 10 ^ suc k = omega arith in
    omega (arith, length_big n (ltb-false n 10 e), short k (n / 10) (ltb (n / 10) 10) refl g)

-- a u64 has at most 20 digits
pub decimal_short : (n : ℕ) → n < 2 ^ 64 → length (decimal n) ≤ 20
decimal_short n h = short 19 n (ltb n 10) refl (omega arith)

some : (n : ℕ) (b : Bool) → ltb n 10 ≡ b → 1 ≤ length (decimal n)
some n true e = omega (arith, length-small n (ltb-true n 10 e))
some n false e = omega (arith, length_big n (ltb-false n 10 e))

pub decimal_some : (n : ℕ) → 1 ≤ length (decimal n)
decimal_some n = some n (ltb n 10) refl

-- a property of every number, from numbers below ten and from a number without its last digit
module _ (P : ℕ → Type 0) (small : (n : ℕ) → n < 10 → P n) (big : (n : ℕ) → 10 ≤ n → P (n / 10) → P n) where
  below : (k n : ℕ) → n < k → P n
  below zero n h = absurd (not-suc-le-zero h)
  below (suc k) n h = by (ltb n 10) refl (below k (n / 10))
    where
      by : (b : Bool) → ltb n 10 ≡ b → (n / 10 < k → P (n / 10)) → P n
      by true e go = small n (ltb-true n 10 e)
      by false e go = let t : 10 ≤ n = ltb-false n 10 e in big n t (go (omega arith))

  by_digit : (n : ℕ) → P n
  by_digit n = below (suc n) n (omega arith)

digit_is : (n : ℕ) → n < 10 → is_digit (48 + n) ≡ true
digit_is n h = and_both _ _ (le-leb 48 (48 + n) (omega arith)) (le-leb (48 + n) 57 (omega arith))

-- digits only
pub decimal-digits : (n : ℕ) → all is_digit (decimal n) ≡ true
decimal-digits =
    by_digit (λ n. all is_digit (decimal n) ≡ true)
    (λ n h. rw (decimal-small n h) (and_both (is_digit (48 + n)) true (digit_is n h) refl))
    (λ n h ih.
    let m : n % 10 < 10 = omega arith in
    rw (decimal_big n h, all_append is_digit, ih) (and_both (is_digit (48 + (n % 10))) true (digit_is (n % 10) m) refl))

-- reading what was written
pub value-append : (n : ℕ) (a b : List ℕ) → value_from n (a ++ b) ≡ value_from (value_from n a) b
value-append n [] b = refl
value-append n (x ∷ a) b = value-append (n * 10 + (x - 48)) a b

pub value-decimal : (n : ℕ) → value (decimal n) ≡ n
value-decimal =
    by_digit (λ n. value (decimal n) ≡ n)
    (λ n h. rw (decimal-small n h) (omega arith))
    (λ n h ih. rw (decimal_big n h, value-append 0, ih) (omega arith))

pub decimal_inj : (m n : ℕ) → decimal m ≡ decimal n → m ≡ n
decimal_inj m n e = sym (value-decimal m) ∙ ap value e ∙ value-decimal n

-- the shortest form: no 0 in front, but for 0 itself
pub decimal-front : (n : ℕ) → 1 ≤ n → 49 ≤ get_or (decimal n) 0 0
decimal-front =
    by_digit (λ n. 1 ≤ n → 49 ≤ get_or (decimal n) 0 0)
    (λ n h k. rw (decimal-small n h) (omega arith))
    (λ n h ih k.
    let g : 0 < length (decimal (n / 10)) = decimal_some (n / 10) in
    rw (decimal_big n h, get_or-append (decimal (n / 10)) ((48 + (n % 10)) ∷ []) 0 0 g) (ih (omega arith)))

-- writing what was read: a run of digits with no 0 in front, after those that say n
more : (n : ℕ) (bs : List ℕ) → 1 ≤ n → all is_digit bs ≡ true → decimal (value_from n bs) ≡ decimal n ++ bs
more n [] h t = sym (append-nil (decimal n))
more n (b ∷ bs) h t =
    let d = and_true_l (is_digit b) (all is_digit bs) t in
    let lo = and_true_l (leb 48 b) (leb b 57) d in
    let hi = and_true_r (leb 48 b) (leb b 57) d in
    let m : ℕ = n * 10 + (b - 48) in
    let q : m / 10 ≡ n = omega (arith, tests) in
    let r : 48 + (m % 10) ≡ b = omega (arith, tests) in
    let e : decimal m ≡ decimal n ++ (b ∷ []) = decimal_big m (omega arith) ∙ rw (q, r) in
    more m bs (omega arith) (and_true_r (is_digit b) (all is_digit bs) t)
    ∙ ap (λ (l : List ℕ). l ++ bs) e
    ∙ append_assoc (decimal n) (b ∷ []) bs

pub decimal-value : (b : ℕ) (bs : List ℕ) → 49 ≤ b → all is_digit (b ∷ bs) ≡ true → decimal (value (b ∷ bs)) ≡ b ∷ bs
decimal-value b bs h t =
    let d = and_true_l (is_digit b) (all is_digit bs) t in
    let hi = and_true_r (leb 48 b) (leb b 57) d in
    let m : ℕ = 0 * 10 + (b - 48) in
    let r : 48 + m ≡ b = omega (arith, tests) in
    let e : decimal m ≡ b ∷ [] = decimal-small m (omega (arith, tests)) ∙ rw r in
    more m bs (omega arith) (and_true_r (is_digit b) (all is_digit bs) t) ∙ ap (λ (l : List ℕ). l ++ bs) e

pub worked-decimal : (decimal 0 ≡ 48 ∷ []) × (decimal 4096 ≡ 52 ∷ 48 ∷ 57 ∷ 54 ∷ []) × (value (52 ∷ 48 ∷ 57 ∷ 54 ∷ []) ≡ 4096)
unfolding decimal
worked-decimal = (refl, refl, refl)
