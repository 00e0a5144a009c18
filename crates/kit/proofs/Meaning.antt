-- What the plain loops' answers say, element by element; and how they go over lists that are put together.
-- `List.Memᴰ a rs` is mathlib's: a stands in rs.
use Prim.Native.Nat.{ℕ, zero, suc, ◌+◌, ◌-◌, ◌<◌}
use mathlib.Core.Path.{◌≡◌, refl, sym, ap, ◌∙◌}
use mathlib.Core.Bool.{Bool, true, false, cond, not, ◌&&◌, ◌||◌, and_assoc, or_assoc}
use mathlib.Core.List.{List, [], ◌∷◌, ◌++◌, map, Memᴰ, append_assoc}
use native.Mathlib.Nat.{le_of_suc-le-suc, not-suc-le-zero}
use native.Mathlib.Omega.{arith}
use borrow.Author.Tests.{not-true}
use lib.ListN.{length, take, drop, get_or}
use Rattle.std.specs.Prelude.{Some, None}
use Rattle.std.specs.Option.{is_some}
use Rattle.kit.specs.Loops.{find_from, first_or, all, any, distinct, sum, keep, lines}
use Rattle.kit.proofs.Bools.{never, and_true_l, and_true_r, and_both, or_left, or_right, or_neither, not_true_false}
use Rattle.kit.proofs.Steps.{found_at, none_passes}

module _ {A : Type 0} where
  -- an element stands at a place, and a place has an element
  pub mem_at : (rs : List A) (i : ℕ) (d : A) → i < length rs → Memᴰ (get_or rs i d) rs
  mem_at [] i d h = absurd (not-suc-le-zero h)
  mem_at (a ∷ rs) zero d h = Memᴰ.head refl
  mem_at (a ∷ rs) (suc i) d h = Memᴰ.tail (mem_at rs i d (le_of_suc-le-suc h))

  pub at_mem : {a : A} {rs : List A} → Memᴰ a rs → (i : ℕ) × (i < length rs) × ((d : A) → get_or rs i d ≡ a)
  at_mem (Memᴰ.head e) = (0, omega arith, λ d. sym e)
  at_mem (Memᴰ.tail m) = let r = at_mem m in (suc r.0, omega (arith, r.1), r.2)

module _ {A : Type 0} (p : A → Bool) where
  -- every element passes
  pub all_mem : {a : A} {rs : List A} → all p rs ≡ true → Memᴰ a rs → p a ≡ true
  all_mem t (Memᴰ.head {x} {xs} e) = ap p e ∙ and_true_l (p x) (all p xs) t
  all_mem t (Memᴰ.tail {x} {xs} m) = all_mem (and_true_r (p x) (all p xs) t) m

  pub all-at : (rs : List A) → all p rs ≡ true → (i : ℕ) → i < length rs → (d : A) → p (get_or rs i d) ≡ true
  all-at rs t i h d = all_mem t (mem_at rs i d h)

  pub all_of : (rs : List A) → ((a : A) → Memᴰ a rs → p a ≡ true) → all p rs ≡ true
  all_of [] h = refl
  all_of (a ∷ rs) h = and_both (p a) (all p rs) (h a (Memᴰ.head refl)) (all_of rs (λ b m. h b (Memᴰ.tail m)))

  pub not-all : (rs : List A) → all p rs ≡ false → (a : A) × Memᴰ a rs × (p a ≡ false)
  not-all [] f = never f
  not-all (a ∷ rs) f = by (p a) refl f (not-all rs)
    where
      by : (b : Bool) → p a ≡ b → (b && all p rs) ≡ false → (all p rs ≡ false → (x : A) × Memᴰ x rs × (p x ≡ false)) → (x : A) × Memᴰ x (a ∷ rs) × (p x ≡ false)
      by true e q go = let r = go q in (r.0, Memᴰ.tail r.1, r.2)
      by false e q go = (a, Memᴰ.head refl, e)

  -- some element passes, or none does
  pub any_mem : {a : A} {rs : List A} → Memᴰ a rs → p a ≡ true → any p rs ≡ true
  any_mem (Memᴰ.head {x} {xs} e) t = or_left (p x) (any p xs) (ap p (sym e) ∙ t)
  any_mem (Memᴰ.tail {x} {xs} m) t = or_right (p x) (any p xs) (any_mem m t)

  pub none_mem : {a : A} {rs : List A} → any p rs ≡ false → Memᴰ a rs → p a ≡ false
  none_mem {a} {rs} f m = not_true_false (p a) (λ t. never (sym (any_mem m t) ∙ f))

  pub none_of : (rs : List A) → ((a : A) → Memᴰ a rs → p a ≡ false) → any p rs ≡ false
  none_of [] h = refl
  none_of (a ∷ rs) h = or_neither (p a) (any p rs) (h a (Memᴰ.head refl)) (none_of rs (λ b m. h b (Memᴰ.tail m)))

  pub any_some : (rs : List A) → any p rs ≡ true → (a : A) × Memᴰ a rs × (p a ≡ true)
  any_some [] t = never (sym t)
  any_some (a ∷ rs) t = by (p a) refl (any_some rs)
    where
      by : (b : Bool) → p a ≡ b → (any p rs ≡ true → (x : A) × Memᴰ x rs × (p x ≡ true)) → (x : A) × Memᴰ x (a ∷ rs) × (p x ≡ true)
      by true e go = (a, Memᴰ.head refl, e)
      by false e go = let r = go (ap (λ (b : Bool). b || any p rs) (sym e) ∙ t) in (r.0, Memᴰ.tail r.1, r.2)

  -- a search finds nothing exactly when none passes
  pub found-any : (i k : ℕ) (rs : List A) → find_from p i rs ≡ Some k → any p rs ≡ true
  found-any i k [] e = let z : ◌≡◌ {A = ℕ} 0 1 = cc in absurd (omega arith)
  found-any i k (a ∷ rs) e = by (p a) e (found-any (i + 1) k rs)
    where
      by : (b : Bool) → cond b (Some i) (find_from p (i + 1) rs) ≡ Some k → (find_from p (i + 1) rs ≡ Some k → any p rs ≡ true) → (b || any p rs) ≡ true
      by true q go = refl
      by false q go = go q

  pub nothing_any : (i : ℕ) (rs : List A) → find_from p i rs ≡ None → any p rs ≡ false
  nothing_any i rs e =
      none_of rs (λ a m.
      let r = at_mem m in
      ap p (sym (r.2 a)) ∙ none_passes p i rs e r.0 r.1 a)

  -- the first that passes is the one that a search finds
  pub first_found : (d : A) (i k : ℕ) (rs : List A) → find_from p i rs ≡ Some k → (e : A) → first_or d p rs ≡ get_or rs (k - i) e
  first_found d i k [] q e = let z : ◌≡◌ {A = ℕ} 0 1 = cc in absurd (omega arith)
  first_found d i k (a ∷ rs) q e = by (p a) refl q (λ r. first_found d (i + 1) k rs r e)
    where
      by : (b : Bool) → p a ≡ b → cond b (Some i) (find_from p (i + 1) rs) ≡ Some k → (find_from p (i + 1) rs ≡ Some k → first_or d p rs ≡ get_or rs (k - (i + 1)) e) → cond b a (first_or d p rs) ≡ get_or (a ∷ rs) (k - i) e
      by true t r go =
          let s : i ≡ k = cc in
          let z : k - i ≡ 0 = omega arith in
          rw z
      by false t r go =
          let z : k - i ≡ suc (k - (i + 1)) = omega (arith, (found_at p (i + 1) k rs r).low) in
          rw z (go r)

  pub first_none : (d : A) (i : ℕ) (rs : List A) → find_from p i rs ≡ None → first_or d p rs ≡ d
  first_none d i [] q = refl
  first_none d i (a ∷ rs) q = by (p a) q (first_none d (i + 1) rs)
    where
      by : (b : Bool) → cond b (Some i) (find_from p (i + 1) rs) ≡ None → (find_from p (i + 1) rs ≡ None → first_or d p rs ≡ d) → cond b a (first_or d p rs) ≡ d
      by true r go = let z : ◌≡◌ {A = ℕ} 0 1 = cc in absurd (omega arith)
      by false r go = go r

  -- and stands in the list where some passes
  pub first_some : (d : A) (rs : List A) → any p rs ≡ true → Memᴰ (first_or d p rs) rs × (p (first_or d p rs) ≡ true)
  first_some d [] t = never (sym t)
  first_some d (a ∷ rs) t = by (p a) refl t (first_some d rs)
    where
      by : (b : Bool) → p a ≡ b → (b || any p rs) ≡ true → (any p rs ≡ true → Memᴰ (first_or d p rs) rs × (p (first_or d p rs) ≡ true)) → Memᴰ (cond b a (first_or d p rs)) (a ∷ rs) × (p (cond b a (first_or d p rs)) ≡ true)
      by true e q go = (Memᴰ.head refl, e)
      by false e q go = (Memᴰ.tail (go q).0, (go q).1)

  -- of two lists in a row
  pub all_append : (rs ts : List A) → all p (rs ++ ts) ≡ (all p rs && all p ts)
  all_append [] ts = refl
  all_append (a ∷ rs) ts = rw (all_append rs ts) (sym (and_assoc (p a) (all p rs) (all p ts)))

  pub any_append : (rs ts : List A) → any p (rs ++ ts) ≡ (any p rs || any p ts)
  any_append [] ts = refl
  any_append (a ∷ rs) ts = rw (any_append rs ts) (sym (or_assoc (p a) (any p rs) (any p ts)))

  pub keep_append : (rs ts : List A) → keep p (rs ++ ts) ≡ keep p rs ++ keep p ts
  keep_append [] ts = refl
  keep_append (a ∷ rs) ts = by (p a) (keep_append rs ts)
    where
      by : (b : Bool) → keep p (rs ++ ts) ≡ keep p rs ++ keep p ts → cond b (a ∷ keep p (rs ++ ts)) (keep p (rs ++ ts)) ≡ cond b (a ∷ keep p rs) (keep p rs) ++ keep p ts
      by true e = ap (λ (l : List A). a ∷ l) e
      by false e = e

  -- and of a part of one
  pub all_take : (n : ℕ) (rs : List A) → all p rs ≡ true → all p (take n rs) ≡ true
  all_take zero [] t = refl
  all_take zero (a ∷ rs) t = refl
  all_take (suc n) [] t = refl
  all_take (suc n) (a ∷ rs) t = and_both (p a) (all p (take n rs)) (and_true_l (p a) (all p rs) t) (all_take n rs (and_true_r (p a) (all p rs) t))

  pub all_drop : (n : ℕ) (rs : List A) → all p rs ≡ true → all p (drop n rs) ≡ true
  all_drop zero [] t = refl
  all_drop zero (a ∷ rs) t = t
  all_drop (suc n) [] t = refl
  all_drop (suc n) (a ∷ rs) t = all_drop n rs (and_true_r (p a) (all p rs) t)

-- no element is the same as a later one
module _ {A : Type 0} (same : A → A → Bool) where
  pub distinct-first : (a : A) (rs : List A) → distinct same (a ∷ rs) ≡ true → any (same a) rs ≡ false
  distinct-first a rs t = not-true (any (same a) rs) (and_true_l (not (any (same a) rs)) (distinct same rs) t)

  pub distinct-rest : (a : A) (rs : List A) → distinct same (a ∷ rs) ≡ true → distinct same rs ≡ true
  distinct-rest a rs t = and_true_r (not (any (same a) rs)) (distinct same rs) t

  pub distinct-at : (rs : List A) → distinct same rs ≡ true → (i j : ℕ) → i < j → j < length rs → (d : A) → same (get_or rs i d) (get_or rs j d) ≡ false
  distinct-at [] t i j h k d = absurd (not-suc-le-zero k)
  distinct-at (a ∷ rs) t i zero h k d = absurd (not-suc-le-zero h)
  distinct-at (a ∷ rs) t zero (suc j) h k d = none_mem (same a) (distinct-first a rs t) (mem_at rs j d (le_of_suc-le-suc k))
  distinct-at (a ∷ rs) t (suc i) (suc j) h k d = distinct-at rs (distinct-rest a rs t) i j (le_of_suc-le-suc h) (le_of_suc-le-suc k) d

pub sum-append : {A : Type 0} (f : A → ℕ) (rs ts : List A) → sum f (rs ++ ts) ≡ sum f rs + sum f ts
sum-append f [] ts = omega arith
sum-append f (a ∷ rs) ts = omega (arith, sum-append f rs ts)

module _ {A B : Type 0} where
  pub sum-map : (f : B → ℕ) (g : A → B) (rs : List A) → sum f (map g rs) ≡ sum (λ a. f (g a)) rs
  sum-map f g [] = refl
  sum-map f g (a ∷ rs) = ap (λ (n : ℕ). f (g a) + n) (sum-map f g rs)

  pub all_map : (p : B → Bool) (g : A → B) (rs : List A) → all p (map g rs) ≡ all (λ a. p (g a)) rs
  all_map p g [] = refl
  all_map p g (a ∷ rs) = ap (λ (b : Bool). p (g a) && b) (all_map p g rs)

  pub any-map : (p : B → Bool) (g : A → B) (rs : List A) → any p (map g rs) ≡ any (λ a. p (g a)) rs
  any-map p g [] = refl
  any-map p g (a ∷ rs) = ap (λ (b : Bool). p (g a) || b) (any-map p g rs)

  pub lines-append : (f : A → List B) (rs ts : List A) → lines f (rs ++ ts) ≡ lines f rs ++ lines f ts
  lines-append f [] ts = refl
  lines-append f (a ∷ rs) ts = rw (lines-append f rs ts) (sym (append_assoc (f a) (lines f rs) (lines f ts)))

-- a lookup finds something exactly when something passes
pub found_some : {A : Type 0} (p : A → Bool) (i : ℕ) (rs : List A) → is_some (find_from p i rs) ≡ any p rs
found_some p i [] = refl
found_some p i (a ∷ rs) = by (p a) (found_some p (i + 1) rs)
  where
    by : (t : Bool) → is_some (find_from p (i + 1) rs) ≡ any p rs → is_some (cond t (Some i) (find_from p (i + 1) rs)) ≡ (t || any p rs)
    by true e = refl
    by false e = e
