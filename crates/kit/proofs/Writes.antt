-- Runs of stores: `sets l i vs` of `lib.Seq` is l with vs stored from i on.
use Prim.Native.Nat.{ℕ, suc, ◌+◌, ◌≤◌, ◌<◌}
use mathlib.Core.Path.{◌≡◌, refl, ap, ◌∙◌, sym}
use mathlib.Core.List.{List, [], ◌∷◌, ◌++◌}
use native.Mathlib.Nat.{add-zero, zero-add}
use native.Mathlib.Omega.{arith}
use lib.ListN.{length, drop, set, length-append, get_or, length-set, drop_of_length-le}
use lib.Seq.{sets, sets-eq, set_comm}
use Rattle.kit.specs.Loops.{lines}
use Rattle.kit.specs.Put.{Put}
use Rattle.kit.proofs.Steps.{left_at}

module _ {A : Type 0} where
  -- one run and then the next
  pub sets-append : (l : List A) (i : ℕ) (a b : List A) → sets l i (a ++ b) ≡ sets (sets l i a) (i + length a) b
  sets-append l i [] b = rw add-zero
  sets-append l i (x ∷ a) b = sets-append (set l i x) (suc i) a b ∙ ap (λ (k : ℕ). sets (sets (set l i x) (suc i) a) k b) (omega arith)

  -- the last one first
  pub sets_last : (l : List A) (i : ℕ) (vs : List A) (d : A) → sets (set l (i + length vs) d) i vs ≡ sets l i (vs ++ (d ∷ []))
  sets_last l i [] d = rw add-zero
  sets_last l i (x ∷ vs) d =
      ap (λ (k : List A). sets k (suc i) vs) (set_comm l (i + suc (length vs)) i d x (omega arith) ∙ ap (λ (k : ℕ). set (set l i x) k d) (omega arith))
      ∙ sets_last (set l i x) (suc i) vs d

  -- a store past a run
  pub set_past : (l : List A) (i : ℕ) (vs : List A) (k : ℕ) (x : A) → i + length vs ≤ k → sets (set l k x) i vs ≡ set (sets l i vs) k x
  set_past l i [] k x h = refl
  set_past l i (v ∷ vs) k x h =
      ap (λ (m : List A). sets m (suc i) vs) (set_comm l k i x v (omega arith)) ∙ set_past (set l i v) (suc i) vs k x (omega arith)

  -- from the front
  pub sets-front : (l vs : List A) → length vs ≤ length l → sets l 0 vs ≡ vs ++ drop (length vs) l
  sets-front l vs h =
      let k : 0 + length vs ≤ length l = omega arith in
      sets-eq vs l 0 k ∙ rw zero-add

  -- lines, a turn of a loop
  pub lines_more : (f : A → List ℕ) {a : A} {rs tail : List A} → rs ≡ a ∷ tail → lines f rs ≡ f a ++ lines f tail
  lines_more f e = rw e

  pub lines_end : (f : A → List ℕ) {rs : List A} → rs ≡ [] → lines f rs ≡ []
  lines_end f e = rw e

-- one writer and then the next
pub put_then : {l m k a b : List ℕ} {at p q : ℕ} → Put l at a m p → Put m p b k q → Put l at (a ++ b) k q
put_then {l} {m} {k} {a} {b} {at} {p} {q} e f =
    record {
      place = omega (arith, e.place, f.place, length-append a b);
      bytes = rw (sets-append, ← e.bytes, ← e.place) f.bytes;
    }

-- what was written, and then what is left to write
pub put-left : {l m a : List ℕ} {at p : ℕ} (b : List ℕ) → Put l at a m p → sets m p b ≡ sets l at (a ++ b)
put-left {l} {m} {a} {at} {p} b e = rw (sets-append, ← e.bytes, ← e.place)

-- the first i elements of s stand in the room from `at` on
pub record Putting (s : List ℕ) (at : ℕ) (out₀ out : List ℕ) (i : ℕ) : Type 0 where
  pub same : length out ≡ length out₀
  pub along : i ≤ length s
  pub left : sets out (at + i) (drop i s) ≡ sets out₀ at s

pub putting_none : (s : List ℕ) (at : ℕ) (out : List ℕ) → Putting s at out out 0
putting_none s at out = record { same = refl; along = omega arith; left = rw add-zero }

module _ {s : List ℕ} {at : ℕ} {out₀ out : List ℕ} {i : ℕ} (p : Putting s at out₀ out i) where
  pub putting_next : (x : ℕ) → x ≡ get_or s i 0 → i < length s → Putting s at out₀ (set out (at + i) x) (i + 1)
  putting_next x e h =
      let q : at + (i + 1) ≡ suc (at + i) = omega arith in
      let n : sets (set out (at + i) x) (at + (i + 1)) (drop (i + 1) s) ≡ sets out (at + i) (drop i s) = rw (left_at s i 0 h, q, e) in
      record { same = simp length-set p.same; along = omega arith; left = n ∙ p.left }

  pub putting_all : length s ≤ i → Put out₀ at s out (at + length s)
  putting_all h =
      record { place = refl; bytes = sym (ap (sets out (at + i)) (drop_of_length-le s {i = i} h)) ∙ p.left }
