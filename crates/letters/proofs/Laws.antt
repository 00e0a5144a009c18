-- The laws of a letter. One test is computed at each place of a table of 256; `at` carries it to an index.
use Prim.Native.Nat.{ℕ, zero, suc, ◌-◌, ◌≤◌, ◌<◌}
use mathlib.Core.Path.{◌≡◌, refl, sym}
use mathlib.Core.Bool.{Bool, true, false, not, ◌&&◌, ◌||◌}
use mathlib.Core.List.{List, [], ◌∷◌}
use native.Mathlib.Omega.{arith}
use borrow.Author.Tests.{eq-eqb, ne_eqb, eqb-true, ltb-true, ltb-false, leb-true, lt-leb}
use lib.Dec.{T, eqb, leb, ltb, lit<, ltb→lt}
use lib.ListN.{length, get_or}
use Rattle.kit.specs.Loops.{all}
use Rattle.kit.proofs.Bools.{never, of_T, and_true_l, and_true_r, not_false_true}
use Rattle.kit.proofs.Table.{at, every}
use Rattle.letters.specs.Letters.{complement_of, is_letter, upper_of, same_letter, is_base}
use Rattle.kit.proofs.Meaning.{all-at}

-- what is asked of a letter k
abbrev asked : ℕ → List Bool
asked k =
    is_letter (complement_of k)
    ∷ eqb (complement_of (complement_of k)) k
    ∷ is_letter (upper_of k)
    ∷ eqb (complement_of (upper_of k)) (upper_of (complement_of k))
    ∷ (not (is_base k) || is_base (complement_of k))
    ∷ []

abbrev answered : ℕ → Bool
answered k = not (is_letter k) || all (λ t. t) (asked k)

-- the test at place k, where x stands
abbrev right : ℕ → ℕ → Bool
right k x = eqb x (complement_of k) && answered k

-- a table that passes holds the complements
pub entry : (xs : List ℕ) → T (every right 0 xs) → (k : ℕ) → k < length xs → get_or xs k 0 ≡ complement_of k
entry xs t k h =
    let x : ℕ = get_or xs k 0 in
    eqb-true x (complement_of k) (and_true_l (eqb x (complement_of k)) (answered k) (at right xs (of_T (every right 0 xs) t) k h))

-- the rule's own table: n entries from place k on
abbrev ruled : ℕ → ℕ → List ℕ
ruled zero k = []
ruled (suc n) k = complement_of k ∷ ruled n (suc k)

passes : every right 0 (ruled 256 0) ≡ true
unfolding complement_of is_letter upper_of is_base
passes = refl

pub complement_zero : complement_of 0 ≡ 0
unfolding complement_of
complement_zero = refl

-- nothing past the bytes is a letter
past : (k n : ℕ) → 256 ≤ k → T (ltb n 256) → eqb k n ≡ false
past k n h t = ne_eqb k n (λ e. omega (arith, ltb→lt n 256 t))

complement_past : (k : ℕ) → 256 ≤ k → complement_of k ≡ 0
unfolding complement_of
complement_past k h = simp (past, tt {0})

pub letter_small : (k : ℕ) → is_letter k ≡ true → k < 256
unfolding is_letter
letter_small k e =
    ltb-true k 256 (not_false_true (ltb k 256) (λ f. never (sym (rw (complement_past k (ltb-false k 256 f)) at e))))

module _ (k : ℕ) (e : is_letter k ≡ true) where
  law : (i : ℕ) → i < 5 → get_or (asked k) i true ≡ true
  law i h =
      let x : ℕ = get_or (ruled 256 0) k 0 in
      let t : right k x ≡ true = at right (ruled 256 0) passes k (letter_small k e) in
      all-at (λ t. t) (asked k) (rw e at (and_true_r (eqb x (complement_of k)) (answered k) t)) i h true

  pub closed : is_letter (complement_of k) ≡ true
  closed = law 0 (lit< tt)

  pub double : complement_of (complement_of k) ≡ k
  double = eqb-true (complement_of (complement_of k)) k (law 1 (lit< tt))

  pub upper_letter : is_letter (upper_of k) ≡ true
  upper_letter = law 2 (lit< tt)

  pub upper_complement : complement_of (upper_of k) ≡ upper_of (complement_of k)
  upper_complement = eqb-true (complement_of (upper_of k)) (upper_of (complement_of k)) (law 3 (lit< tt))

pub complement_same : (a b : ℕ) → is_letter a ≡ true → is_letter b ≡ true → same_letter a b ≡ true → same_letter (complement_of a) (complement_of b) ≡ true
complement_same a b h g e =
    eq-eqb (upper_of (complement_of a)) (upper_of (complement_of b))
    (cc (upper_complement a h, upper_complement b g, eqb-true (upper_of a) (upper_of b) e))

pub base_letter : (k : ℕ) → is_base k ≡ true → is_letter k ≡ true
unfolding is_base
base_letter k e = and_true_l (is_letter k) (not (eqb (upper_of k) 78)) e

pub base_complement : (k : ℕ) → is_base k ≡ true → is_base (complement_of k) ≡ true
base_complement k e = rw e at (law k (base_letter k e) 4 (lit< tt))

upper_by : (k : ℕ) (t : Bool) → (leb 97 k && leb k 122) ≡ t → upper_of (upper_of k) ≡ upper_of k
unfolding upper_of
upper_by k true e =
    let h : k ≤ 122 = leb-true k 122 (and_true_r (leb 97 k) (leb k 122) e) in
    rw (e, lt-leb 97 (k - 32) (omega arith))
upper_by k false e = rw (e, e)

pub upper_upper : (k : ℕ) → upper_of (upper_of k) ≡ upper_of k
upper_upper k = upper_by k (leb 97 k && leb k 122) refl
