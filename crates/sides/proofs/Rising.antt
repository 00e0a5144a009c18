-- Rising lists of oriented nodes: `rising` gives each that stands in a list once, lowest first, and `next_above` goes along it.
use Prim.Native.Nat.{ℕ, zero, suc, ◌≤◌, ◌<◌}
use mathlib.Core.Path.{◌≡◌, refl, sym, ap, ap₂, ◌∙◌, subst}
use mathlib.Core.Bool.{Bool, true, false, cond, ◌&&◌, ◌||◌}
use mathlib.Core.List.Memᴰ
use mathlib.Core.List.{List, [], ◌∷◌, Memᴰ}
use mathlib.Core.Logic.{⊎_elim, ◌⊎◌, inl, inr}
use native.Mathlib.Nat.{le_of_suc-le-suc, not-suc-le-zero}
use native.Mathlib.Omega.{arith}
use borrow.Author.Tests.{lt-ltb, le-ltb}
use lib.Dec.{eqb, ltb}
use lib.ListN.{length, get_or}
use Rattle.kit.specs.Loops.{all, keep}
use Rattle.kit.proofs.Bools.{tests, same_test}
use Rattle.kit.proofs.Meaning.{mem_at, all_mem, all_of}
use Rattle.handle.specs.declared.Handle.{Handle}
use Rattle.handle.specs.Handle.{same_handle, before}
use Rattle.handle.proofs.Handles.{same_handle_lem, before_packed}
use Rattle.store.specs.Graph.{handle}
use Rattle.sides.specs.Sides.{insert_once, rising, next_above}
use Rattle.sides.specs.Search.{lower, lowest}

-- each is lower than all that follow it
pub data Sorted : List Handle → Type 0 where
  sorted_nil : Sorted []
  sorted_cons : {x : Handle} {xs : List Handle} → ((y : Handle) → Memᴰ y xs → x.packed < y.packed) → Sorted xs → Sorted (x ∷ xs)

number : {u v : Handle} → u ≡ v → u.packed ≡ v.packed
number e = ap (λ (h : Handle). h.packed) e

module _ (x : Handle) where
  -- the three cases of an insertion before y
  abbrev put : Bool → Bool → Handle → List Handle → List Handle
  put b s y ys = cond b (x ∷ y ∷ ys) (cond s (y ∷ ys) (y ∷ insert_once x ys))

  -- what stands in the list then: x, and what stood there
  inserted : (ys : List Handle) {u : Handle} → Memᴰ u (insert_once x ys) → (u ≡ x) ⊎ Memᴰ u ys
  inserted [] m = inl (Memᴰ.eq_of_singleton m)
  inserted (y ∷ ys) {u} m = by (before x y) (same_handle x y) m (inserted ys)
    where
      by : (b s : Bool) → Memᴰ u (put b s y ys) → (Memᴰ u (insert_once x ys) → (u ≡ x) ⊎ Memᴰ u ys) → (u ≡ x) ⊎ Memᴰ u (y ∷ ys)
      by true s k go = Memᴰ.cases_cons k
      by false true k go = inr k
      by false false k go =
          ⊎_elim (λ e. inr (Memᴰ.head e)) (λ j. ⊎_elim (λ e. inl e) (λ i. inr (Memᴰ.tail i)) (go j)) (Memᴰ.cases_cons k)

  stays : (ys : List Handle) {u : Handle} → Memᴰ u ys → Memᴰ u (insert_once x ys)
  stays [] m = absurd (Memᴰ.not-nil m)
  stays (y ∷ ys) {u} m = by (before x y) (same_handle x y) (stays ys)
    where
      by : (b s : Bool) → (Memᴰ u ys → Memᴰ u (insert_once x ys)) → Memᴰ u (put b s y ys)
      by true s go = Memᴰ.tail m
      by false true go = m
      by false false go = ⊎_elim (λ e. Memᴰ.head e) (λ j. Memᴰ.tail (go j)) (Memᴰ.cases_cons m)

  enters : (ys : List Handle) → Memᴰ x (insert_once x ys)
  enters [] = Memᴰ.head refl
  enters (y ∷ ys) = by (before x y) (same_handle x y) refl (enters ys)
    where
      by : (b s : Bool) → same_handle x y ≡ s → Memᴰ x (insert_once x ys) → Memᴰ x (put b s y ys)
      by true s e m = Memᴰ.head refl
      by false true e m = Memᴰ.head (same_handle_lem x y e)
      by false false e m = Memᴰ.tail m

  still_sorted : {ys : List Handle} → Sorted ys → Sorted (insert_once x ys)
  still_sorted sorted_nil = sorted_cons (λ u m. absurd (Memᴰ.not-nil m)) sorted_nil
  still_sorted (sorted_cons {x = y} {xs = ys} low s) = by (before x y) (same_handle x y) (sym (before_packed x y)) refl (still_sorted s)
    where
      by : (b t : Bool) → ltb x.packed y.packed ≡ b → same_handle x y ≡ t → Sorted (insert_once x ys) → Sorted (put b t y ys)
      by true t e f r =
          sorted_cons {x = x} {xs = y ∷ ys}
          (λ u m. ⊎_elim (λ (q : u ≡ y). omega (arith, tests, number q)) (λ k. omega (arith, tests, low u k)) (Memᴰ.cases_cons m))
          (sorted_cons low s)
      by false true e f r = sorted_cons low s
      by false false e f r = sorted_cons {x = y} (λ u m. ⊎_elim (λ (q : u ≡ x). omega (arith, tests, number q)) (low u) (inserted ys m)) r

pub rising_sorted : (xs : List Handle) → Sorted (rising xs)
rising_sorted [] = sorted_nil
rising_sorted (x ∷ xs) = still_sorted x (rising_sorted xs)

-- an oriented node stands in `rising xs` exactly when it stands in xs
pub of_rising : (xs : List Handle) {u : Handle} → Memᴰ u (rising xs) → Memᴰ u xs
of_rising [] m = m
of_rising (x ∷ xs) m = ⊎_elim (λ e. Memᴰ.head e) (λ k. Memᴰ.tail (of_rising xs k)) (inserted x (rising xs) m)

pub in_rising : {u : Handle} {xs : List Handle} → Memᴰ u xs → Memᴰ u (rising xs)
in_rising (Memᴰ.head {x} {xs} e) = Memᴰ.cast e (enters x (rising xs))
in_rising (Memᴰ.tail {x} {xs} m) = stays x (rising xs) (in_rising m)

-- of two places the later has the higher packed number
pub sorted_at : {xs : List Handle} → Sorted xs → (i j : ℕ) → i < j → j < length xs → (d : Handle) → (get_or xs i d).packed < (get_or xs j d).packed
sorted_at sorted_nil i j h k d = absurd (not-suc-le-zero k)
sorted_at (sorted_cons low s) i zero h k d = absurd (not-suc-le-zero h)
sorted_at (sorted_cons {xs = xs} low s) zero (suc j) h k d = low (get_or xs j d) (mem_at xs j d (le_of_suc-le-suc k))
sorted_at (sorted_cons low s) (suc i) (suc j) h k d = sorted_at s i j (le_of_suc-le-suc h) (le_of_suc-le-suc k) d

pub rising-at : (xs : List Handle) (i j : ℕ) → i < j → j < length (rising xs) → (d : Handle) → (get_or (rising xs) i d).packed < (get_or (rising xs) j d).packed
rising-at xs = sorted_at (rising_sorted xs)

-- two rising lists with the same members are equal
pub sorted_same : {xs ys : List Handle} → Sorted xs → Sorted ys → ((u : Handle) → Memᴰ u xs → Memᴰ u ys) → ((u : Handle) → Memᴰ u ys → Memᴰ u xs) → xs ≡ ys
sorted_same sorted_nil sorted_nil f g = refl
sorted_same sorted_nil (sorted_cons {x = y} low s) f g = absurd (Memᴰ.not-nil (g y (Memᴰ.head refl)))
sorted_same (sorted_cons {x} low s) sorted_nil f g = absurd (Memᴰ.not-nil (f x (Memᴰ.head refl)))
sorted_same (sorted_cons {x} {xs} low s) (sorted_cons {x = y} {xs = ys} high t) f g =
    let e : x ≡ y = first (Memᴰ.cases_cons (f x (Memᴰ.head refl))) (Memᴰ.cases_cons (g y (Memᴰ.head refl))) in
    let n = number e in
    ap₂ (λ (h : Handle) (hs : List Handle). h ∷ hs) e
    (sorted_same s t
    (λ u m. ⊎_elim (λ (q : u ≡ y). absurd (omega (arith, low u m, number q))) (λ k. k) (Memᴰ.cases_cons (f u (Memᴰ.tail m))))
    (λ u m. ⊎_elim (λ (q : u ≡ x). absurd (omega (arith, high u m, number q))) (λ k. k) (Memᴰ.cases_cons (g u (Memᴰ.tail m)))))
  where
    first : (x ≡ y) ⊎ Memᴰ x ys → (y ≡ x) ⊎ Memᴰ y xs → x ≡ y
    first (inl e) q = e
    first (inr m) (inl e) = sym e
    first (inr m) (inr k) = absurd (omega (arith, high x m, low y k))

module _ (above : ℕ) where
  -- the next above a number is a member above it, unless 0; and no member above it is lower
  pub record Next (xs : List Handle) (n : ℕ) : Type 0 where
    pub member : 0 < n → Memᴰ (handle n) xs × (above < n)
    pub least : (u : Handle) → Memᴰ u xs → above < u.packed → (above < n) × (n ≤ u.packed)

  -- there is one such number
  next-once : {xs : List Handle} {n m : ℕ} → Next xs n → Next xs m → n ≡ m
  next-once {xs} {n} {m} r s = by (eqb n 0) (eqb m 0) refl refl
    where
      half : {i j : ℕ} → Next xs i → Next xs j → 0 < j → (above < i) × (i ≤ j)
      half {i} {j} f g h = f.least (handle j) (g.member h).0 (g.member h).1

      by : (a b : Bool) → eqb n 0 ≡ a → eqb m 0 ≡ b → n ≡ m
      by true true e f = omega (arith, tests)
      by true false e f = absurd (omega (arith, tests, (half r s (omega (arith, tests))).0))
      by false true e f = absurd (omega (arith, tests, (half s r (omega (arith, tests))).0))
      by false false e f = omega (arith, (half r s (omega (arith, tests))).1, (half s r (omega (arith, tests))).1)

  -- of a list with one more it is the lower of the two
  lower-next : (x : Handle) {xs : List Handle} {n : ℕ} → Next xs n → Next (x ∷ xs) (lower above x.packed n)
  lower-next x {xs} {n} r = by (ltb above x.packed) (eqb n 0) (ltb x.packed n) refl refl refl
    where
      over : {m : ℕ} → ((u : Handle) → Memᴰ u xs → above < u.packed → (above < m) × (m ≤ u.packed)) → (above < x.packed → (above < m) × (m ≤ x.packed)) → (u : Handle) → Memᴰ u (x ∷ xs) → above < u.packed → (above < m) × (m ≤ u.packed)
      over f g u (Memᴰ.head e) h = let q = number e in let k = g (omega arith) in (k.0, omega arith)
      over f g u (Memᴰ.tail m) h = f u m h

      by : (a z l : Bool) → ltb above x.packed ≡ a → eqb n 0 ≡ z → ltb x.packed n ≡ l → Next (x ∷ xs) (cond (a && (z || l)) x.packed n)
      by false z l e f g =
          record {
            member = λ h. (Memᴰ.tail (r.member h).0, (r.member h).1);
            least = over r.least (λ h. absurd (omega (arith, tests)));
          }
      by true true l e f g =
          record {
            member = λ h. (Memᴰ.head refl, omega (arith, tests));
            least = over (λ u m h. absurd (omega (arith, tests, (r.least u m h).0))) (λ h. (h, omega arith));
          }
      by true false true e f g =
          record {
            member = λ h. (Memᴰ.head refl, omega (arith, tests));
            least = over (λ u m h. (omega (arith, tests), omega (arith, tests, (r.least u m h).1))) (λ h. (h, omega arith));
          }
      by true false false e f g =
          record {
            member = λ h. (Memᴰ.tail (r.member h).0, (r.member h).1);
            least = over r.least (λ h. ((r.member (omega (arith, tests))).1, omega (arith, tests)));
          }

  -- the search in no order finds it, and so does the first above in a rising list
  lowest-next : (xs : List Handle) → Next xs (lowest above 0 xs)
  lowest-next [] = record { member = λ h. absurd (not-suc-le-zero h); least = λ u m h. absurd (Memᴰ.not-nil m) }
  lowest-next (x ∷ xs) = lower-next x (lowest-next xs)

  first_lower_lem : (x : Handle) {xs : List Handle} {n : ℕ} → ((y : Handle) → Memᴰ y xs → x.packed < y.packed) → Next xs n → lower above x.packed n ≡ (cond (ltb above x.packed) x (handle n)).packed
  first_lower_lem x {xs} {n} low r = by (ltb above x.packed) (eqb n 0) (ltb x.packed n) refl refl
    where
      by : (a z l : Bool) → eqb n 0 ≡ z → ltb x.packed n ≡ l → cond (a && (z || l)) x.packed n ≡ (cond a x (handle n)).packed
      by false z l e f = refl
      by true true l e f = refl
      by true false true e f = refl
      by true false false e f = absurd (omega (arith, tests, low (handle n) (r.member (omega (arith, tests))).0))

  next_is : {xs : List Handle} → Sorted xs → Next xs (next_above above xs)
  next_is sorted_nil = lowest-next []
  next_is (sorted_cons {x} {xs} low s) = subst (Next (x ∷ xs)) (first_lower_lem x low (next_is s)) (lower-next x (next_is s))

  pub rising-next : (xs : List Handle) → Next xs (next_above above (rising xs))
  rising-next xs =
      let r = next_is (rising_sorted xs) in
      record { member = λ h. (of_rising xs (r.member h).0, (r.member h).1); least = λ u m h. r.least u (in_rising m) h }

  pub next-lowest : (xs : List Handle) → next_above above (rising xs) ≡ lowest above 0 xs
  next-lowest xs = next-once (rising-next xs) (lowest-next xs)

-- what is left of a rising list above a number: so a loop goes along it, from one to the next
abbrev pub rest_above : ℕ → List Handle → List Handle
rest_above above xs = keep (λ h. ltb above h.packed) xs

pub rest_all : (above : ℕ) (xs : List Handle) → ((u : Handle) → Memᴰ u xs → above < u.packed) → rest_above above xs ≡ xs
rest_all above [] h = refl
rest_all above (x ∷ xs) h =
    rw (lt-ltb above x.packed (h x (Memᴰ.head refl))) (ap (λ (l : List Handle). x ∷ l) (rest_all above xs (λ u m. h u (Memᴰ.tail m))))

rest_more : (above : ℕ) {xs : List Handle} → Sorted xs → (next_above above xs ≡ 0 → ⊥) → rest_above above xs ≡ handle (next_above above xs) ∷ rest_above (next_above above xs) xs
rest_more above sorted_nil h = absurd (h refl)
rest_more above (sorted_cons {x} {xs} low s) h = by (ltb above x.packed) refl h (rest_more above s)
  where
    by : (b : Bool) → ltb above x.packed ≡ b → ((cond b x (handle (next_above above xs))).packed ≡ 0 → ⊥) → ((next_above above xs ≡ 0 → ⊥) → rest_above above xs ≡ handle (next_above above xs) ∷ rest_above (next_above above xs) xs) → cond b (x ∷ rest_above above xs) (rest_above above xs) ≡ handle (cond b x (handle (next_above above xs))).packed ∷ rest_above (cond b x (handle (next_above above xs))).packed (x ∷ xs)
    by true e k go =
        rw (le-ltb x.packed x.packed (omega arith), rest_all x.packed xs low)
        (ap (λ (l : List Handle). x ∷ l) (rest_all above xs (λ u m. omega (arith, tests, low u m))))
    by false e k go =
        let n = ((next_is above s).member (omega (arith, k))).1 in
        rw (le-ltb (next_above above xs) x.packed (omega (arith, tests))) (go k)

rest_none : (above : ℕ) (xs : List Handle) → next_above above xs ≡ 0 → rest_above above xs ≡ []
rest_none above [] h = refl
rest_none above (x ∷ xs) h = by (ltb above x.packed) refl h (rest_none above xs)
  where
    by : (b : Bool) → ltb above x.packed ≡ b → (cond b x (handle (next_above above xs))).packed ≡ 0 → (next_above above xs ≡ 0 → rest_above above xs ≡ []) → cond b (x ∷ rest_above above xs) (rest_above above xs) ≡ []
    by true e k go = absurd (omega (arith, tests))
    by false e k go = go k

-- a turn of such a loop, which found n next; and its end
pub record Step (above : ℕ) (xs : List Handle) (n : ℕ) : Type 0 where
  pub higher : above < n
  pub rest : rest_above above xs ≡ handle n ∷ rest_above n xs

pub next-step : (above : ℕ) {xs : List Handle} (n : ℕ) → Sorted xs → n ≡ next_above above xs → 0 < n → Step above xs n
next-step above {xs} n s e h =
    let k : next_above above xs ≡ 0 → ⊥ = λ z. omega (arith, e, h, z) in
    record { higher = rw e ((next_is above s).member (omega (arith, k))).1; rest = rw e (rest_more above s k) }

pub next_end : (above : ℕ) (xs : List Handle) → 0 ≡ next_above above xs → rest_above above xs ≡ []
next_end above xs e = rest_none above xs (sym e)

-- a test of every member asks no order
pub all-rising : (p : Handle → Bool) (xs : List Handle) → all p (rising xs) ≡ all p xs
all-rising p xs =
    same_test _ _ (λ t. all_of p xs (λ u m. all_mem p t (in_rising m))) (λ t. all_of p (rising xs) (λ u m. all_mem p t (of_rising xs m)))
