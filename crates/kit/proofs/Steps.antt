-- One turn of each plain loop over records, in the form that an invariant wants: what is left to do before the turn, and after it.
use Prim.Native.Nat.{ℕ, zero, suc, ◌+◌, ◌-◌, ◌*◌, ◌≤◌, ◌<◌, suc-le-suc}
use mathlib.Core.Path.{◌≡◌, refl, sym, ap, subst}
use mathlib.Core.Bool.{Bool, true, false, cond}
use mathlib.Core.List.{List, [], ◌∷◌, map, append-nil}
use native.Mathlib.Nat.{zero-add, le_of_suc-le-suc, not-suc-le-zero}
use native.Mathlib.Numerals.{add-one}
use native.Mathlib.Omega.{arith}
use lib.ListN.{length, take, drop, get_or, set, length-drop, length-take, drop_of_length-le}
use lib.Seq.{take-length, drop-length, length-take-le, drop-cons, get_or-take, get_or-drop}
use Rattle.std.specs.Prelude.{Some, None}
use Rattle.kit.specs.Loops.{find_from, all, any, distinct, sum, count, map_from, keep}

-- what is left of a list from place i on, in a turn of a loop
pub left_at : {A : Type 0} (l : List A) (i : ℕ) (d : A) → i < length l → drop i l ≡ get_or l i d ∷ drop (i + 1) l
left_at l i d h = rw (add-one, drop-cons l i d h)

module _ {A : Type 0} where
  -- a search: the element in front passes, or does not, or there is none
  pub find_hit : (p : A → Bool) (i : ℕ) {a : A} {rs tail : List A} → rs ≡ a ∷ tail → p a ≡ true → find_from p i rs ≡ Some i
  find_hit p i e t = rw (e, t)

  pub find_miss : (p : A → Bool) (i : ℕ) {a : A} {rs tail : List A} → rs ≡ a ∷ tail → p a ≡ false → find_from p i rs ≡ find_from p (i + 1) tail
  find_miss p i e t = rw (e, t)

  pub find_end : (p : A → Bool) (i : ℕ) {rs : List A} → rs ≡ [] → find_from p i rs ≡ None
  find_end p i e = rw e

  -- a test of every element, and of some element
  pub all_pass : (p : A → Bool) {a : A} {rs tail : List A} → rs ≡ a ∷ tail → p a ≡ true → all p rs ≡ all p tail
  all_pass p e t = rw (e, t)

  pub all_fail : (p : A → Bool) {a : A} {rs tail : List A} → rs ≡ a ∷ tail → p a ≡ false → all p rs ≡ false
  all_fail p e t = rw (e, t)

  pub all_end : (p : A → Bool) {rs : List A} → rs ≡ [] → all p rs ≡ true
  all_end p e = rw e

  pub any_hit : (p : A → Bool) {a : A} {rs tail : List A} → rs ≡ a ∷ tail → p a ≡ true → any p rs ≡ true
  any_hit p e t = rw (e, t)

  pub any_miss : (p : A → Bool) {a : A} {rs tail : List A} → rs ≡ a ∷ tail → p a ≡ false → any p rs ≡ any p tail
  any_miss p e t = rw (e, t)

  pub any_end : (p : A → Bool) {rs : List A} → rs ≡ [] → any p rs ≡ false
  any_end p e = rw e

  -- that no element is the same as a later one
  pub distinct-pass : (same : A → A → Bool) {a : A} {rs tail : List A} → rs ≡ a ∷ tail → any (same a) tail ≡ false → distinct same rs ≡ distinct same tail
  distinct-pass same e t = rw (e, t)

  pub distinct_fail : (same : A → A → Bool) {a : A} {rs tail : List A} → rs ≡ a ∷ tail → any (same a) tail ≡ true → distinct same rs ≡ false
  distinct_fail same e t = rw (e, t)

  pub distinct_end : (same : A → A → Bool) {rs : List A} → rs ≡ [] → distinct same rs ≡ true
  distinct_end same e = rw e

  -- the elements that pass
  pub keep_hit : (p : A → Bool) {a : A} {rs tail : List A} → rs ≡ a ∷ tail → p a ≡ true → keep p rs ≡ a ∷ keep p tail
  keep_hit p e t = rw (e, t)

  pub keep_miss : (p : A → Bool) {a : A} {rs tail : List A} → rs ≡ a ∷ tail → p a ≡ false → keep p rs ≡ keep p tail
  keep_miss p e t = rw (e, t)

  pub keep_end : (p : A → Bool) {rs : List A} → rs ≡ [] → keep p rs ≡ []
  keep_end p e = rw e

  -- a sum, and a count
  pub sum_more : (f : A → ℕ) {a : A} {rs tail : List A} → rs ≡ a ∷ tail → sum f rs ≡ f a + sum f tail
  sum_more f e = rw e

  pub sum_end : (f : A → ℕ) {rs : List A} → rs ≡ [] → sum f rs ≡ 0
  sum_end f e = rw e

  pub count_hit : (p : A → Bool) {a : A} {rs tail : List A} → rs ≡ a ∷ tail → p a ≡ true → count p rs ≡ 1 + count p tail
  count_hit p e t = rw (e, t)

  pub count_miss : (p : A → Bool) {a : A} {rs tail : List A} → rs ≡ a ∷ tail → p a ≡ false → count p rs ≡ count p tail
  count_miss p e t = rw (e, t) (zero-add _)

  -- a map in place: the element at i is stored mapped, or the map leaves it as it is; all are done
  map-set : (f : A → A) (i : ℕ) (rs : List A) (d : A) → i < length rs → map_from f (suc i) (set rs i (f (get_or rs i d))) ≡ map_from f i rs
  map-set f i [] d h = absurd (not-suc-le-zero h)
  map-set f zero (a ∷ rs) d h = refl
  map-set f (suc i) (a ∷ rs) d h = ap (λ (t : List A). a ∷ t) (map-set f i rs d (le_of_suc-le-suc h))

  map-keep : (f : A → A) (i : ℕ) (rs : List A) (d : A) → i < length rs → f (get_or rs i d) ≡ get_or rs i d → map_from f (suc i) rs ≡ map_from f i rs
  map-keep f i [] d h e = absurd (not-suc-le-zero h)
  map-keep f zero (a ∷ rs) d h e = ap (λ (x : A). x ∷ map f rs) (sym e)
  map-keep f (suc i) (a ∷ rs) d h e = ap (λ (t : List A). a ∷ t) (map-keep f i rs d (le_of_suc-le-suc h) e)

  pub map-stored : (f : A → A) (i : ℕ) (rs : List A) (d x : A) → i < length rs → x ≡ f (get_or rs i d) → map_from f (i + 1) (set rs i x) ≡ map_from f i rs
  map-stored f i rs d x h e = rw (e, add-one) (map-set f i rs d h)

  pub map-kept : (f : A → A) (i : ℕ) (rs : List A) (d : A) → i < length rs → f (get_or rs i d) ≡ get_or rs i d → map_from f (i + 1) rs ≡ map_from f i rs
  map-kept f i rs d h e = rw add-one (map-keep f i rs d h e)

  pub map-done : (f : A → A) (i : ℕ) (rs : List A) → length rs ≡ i → map_from f i rs ≡ rs
  map-done f i rs e = rw (← e, take-length, drop-length) (append-nil rs)

-- a part of a list, element by element, as a loop over `xs[start + j]` reads it
pub part_cons : (xs : List ℕ) (start len j : ℕ) → start + len ≤ length xs → j < len → drop j (take len (drop start xs)) ≡ get_or xs (start + j) 0 ∷ drop (j + 1) (take len (drop start xs))
part_cons xs start len j h k =
    let e : length (take len (drop start xs)) ≡ len = length-take-le len (drop start xs) (omega (arith, length-drop start xs)) in
    let m : j < length (take len (drop start xs)) = omega arith in
    rw (add-one, drop-cons (take len (drop start xs)) j 0 m, get_or-take len (drop start xs) j 0 k, get_or-drop start xs j 0)

pub part_end : (xs : List ℕ) (start len j : ℕ) → len ≤ j → drop j (take len (drop start xs)) ≡ []
part_end xs start len j h = drop_of_length-le (take len (drop start xs)) {i = j} (omega (arith, length-take len (drop start xs)))

-- a sum whose every term is at most m is at most m for each: how a bound on the records keeps a sum from wrapping
pub sum_bound : {A : Type 0} (f : A → ℕ) (m : ℕ) (rs : List A) → ((i : ℕ) → i < length rs → (d : A) → f (get_or rs i d) ≤ m) → sum f rs ≤ m * length rs
sum_bound f m [] h = omega arith
sum_bound f m (a ∷ rs) h = omega (arith, h 0 (omega arith) a, sum_bound f m rs (λ i k d. h (suc i) (suc-le-suc k) d))

-- What a search's answer tells its caller. The place is in range, passes, and none before it does; where there is none,
-- every element fails.
pub record FoundAt {A : Type 0} (p : A → Bool) (i : ℕ) (rs : List A) (k : ℕ) : Type 0 where
  pub low : i ≤ k
  pub high : k < i + length rs
  pub passes : (d : A) → p (get_or rs (k - i) d) ≡ true
  pub first : (j : ℕ) → j < k - i → (d : A) → p (get_or rs j d) ≡ false

module _ {A : Type 0} (p : A → Bool) where
  found_first : (i : ℕ) (a : A) (rs : List A) → p a ≡ true → FoundAt p i (a ∷ rs) i
  found_first i a rs t =
      let z : i - i ≡ 0 = omega arith in
      record { low = omega arith; high = omega arith; passes = λ d. rw z t; first = λ j h d. absurd (omega arith) }

  found-next : (i k : ℕ) (a : A) (rs : List A) → p a ≡ false → FoundAt p (i + 1) rs k → FoundAt p i (a ∷ rs) k
  found-next i k a rs t f =
      let z : k - i ≡ suc (k - (i + 1)) = omega (arith, f.low) in
      record {
        low = omega (arith, f.low);
        high = omega (arith, f.high);
        passes = λ d. rw z (f.passes d);
        first = λ j h d. earlier j h d;
      }
    where
      earlier : (j : ℕ) → j < k - i → (d : A) → p (get_or (a ∷ rs) j d) ≡ false
      earlier zero h d = t
      earlier (suc j) h d = f.first j (omega (arith, h, f.low)) d

  found_by : (b : Bool) (i k : ℕ) (a : A) (rs : List A) → p a ≡ b → cond b (Some i) (find_from p (i + 1) rs) ≡ Some k → (find_from p (i + 1) rs ≡ Some k → FoundAt p (i + 1) rs k) → FoundAt p i (a ∷ rs) k
  found_by true i k a rs t e go =
      let q : i ≡ k = cc in
      subst (λ (x : ℕ). FoundAt p i (a ∷ rs) x) q (found_first i a rs t)
  found_by false i k a rs t e go = found-next i k a rs t (go e)

  pub found_at : (i k : ℕ) (rs : List A) → find_from p i rs ≡ Some k → FoundAt p i rs k
  found_at i k [] e = let z : ◌≡◌ {A = ℕ} 0 1 = cc in absurd (omega arith)
  found_at i k (a ∷ rs) e = found_by (p a) i k a rs refl e (found_at (i + 1) k rs)

  none_by : (b : Bool) (i : ℕ) (a : A) (rs : List A) → p a ≡ b → cond b (Some i) (find_from p (i + 1) rs) ≡ None → (p a ≡ false) × (find_from p (i + 1) rs ≡ None)
  none_by true i a rs t e = let z : ◌≡◌ {A = ℕ} 0 1 = cc in absurd (omega arith)
  none_by false i a rs t e = (t, e)

  pub none_passes : (i : ℕ) (rs : List A) → find_from p i rs ≡ None → (j : ℕ) → j < length rs → (d : A) → p (get_or rs j d) ≡ false
  none_passes i [] e j h d = absurd (not-suc-le-zero h)
  none_passes i (a ∷ rs) e zero h d = (none_by (p a) i a rs refl e).0
  none_passes i (a ∷ rs) e (suc j) h d = none_passes (i + 1) rs (none_by (p a) i a rs refl e).1 j (le_of_suc-le-suc h) d
