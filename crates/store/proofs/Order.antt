-- Links in written order: each before all that follow it, each link of the list exactly once, and where one stands among them.
use Prim.Native.Nat.{ℕ, suc, ◌+◌}
use mathlib.Core.Path.{subst, ◌≡◌, refl, sym, ap, ◌∙◌}
use mathlib.Core.Bool.{Bool, true, false, cond, ◌&&◌}
use mathlib.Core.List.Memᴰ
use mathlib.Core.List.{List, [], ◌∷◌, Memᴰ}
use mathlib.Core.Logic.{⊎_elim, ◌⊎◌, inl, inr}
use native.Mathlib.Nat.{zero-add}
use native.Mathlib.Omega.{arith}
use lib.ListN.{length, take, drop}
use Rattle.kit.specs.Loops.{all, distinct, sum, count, keep}
use Rattle.kit.proofs.Bools.{never, not_true_false}
use Rattle.kit.proofs.Meaning.{none_mem, distinct-first, distinct-rest}
use Rattle.kit.proofs.Members.{of_keep}
use Rattle.handle.specs.declared.Edge.{Edge}
use Rattle.handle.specs.Edge.{same_ends, edge_before}
use Rattle.handle.proofs.Edges.{ends-refl, before_irrefl, before_trans, before-total}
use Rattle.store.specs.Graph.{ends}
use Rattle.store.specs.declared.Link.{Link}
use Rattle.store.specs.Order.{insert_link, written_order}

-- no link is stored twice
abbrev pub apart : List Link → Bool
apart rs = distinct (λ r s. same_ends (ends r) (ends s)) rs

-- x is written before each link of a list
abbrev pub Leads : Link → List Link → Type 0
Leads x ys = (y : Link) → Memᴰ y ys → edge_before (ends x) (ends y) ≡ true

-- each is written before all that follow it
pub data Written : List Link → Type 0 where
  written_nil : Written []
  written_cons : {x : Link} {xs : List Link} → Leads x xs → Written xs → Written (x ∷ xs)

module _ (x : Link) where
  leads_cons : (y : Link) (ys : List Link) → edge_before (ends x) (ends y) ≡ true → Leads y ys → Leads x (y ∷ ys)
  leads_cons y ys e low u m =
      ⊎_elim
      (λ (q : u ≡ y). ap (λ (k : Link). edge_before (ends x) (ends k)) q ∙ e)
      (λ k. before_trans (ends x) (ends y) (ends u) e (low u k))
      (Memᴰ.cases_cons m)

  -- what stands in the list after an insertion: x, and what stood there
  inserted : (ys : List Link) {u : Link} → Memᴰ u (insert_link x ys) → (u ≡ x) ⊎ Memᴰ u ys
  inserted [] m = inl (Memᴰ.eq_of_singleton m)
  inserted (y ∷ ys) {u} m = by (edge_before (ends x) (ends y)) m (inserted ys)
    where
      by : (b : Bool) → Memᴰ u (cond b (x ∷ y ∷ ys) (y ∷ insert_link x ys)) → (Memᴰ u (insert_link x ys) → (u ≡ x) ⊎ Memᴰ u ys) → (u ≡ x) ⊎ Memᴰ u (y ∷ ys)
      by true k go = Memᴰ.cases_cons k
      by false k go =
          ⊎_elim (λ e. inr (Memᴰ.head e)) (λ j. ⊎_elim (λ e. inl e) (λ i. inr (Memᴰ.tail i)) (go j)) (Memᴰ.cases_cons k)

  stays : (ys : List Link) {u : Link} → Memᴰ u (x ∷ ys) → Memᴰ u (insert_link x ys)
  stays [] m = m
  stays (y ∷ ys) {u} m = by (edge_before (ends x) (ends y)) (stays ys)
    where
      by : (b : Bool) → (Memᴰ u (x ∷ ys) → Memᴰ u (insert_link x ys)) → Memᴰ u (cond b (x ∷ y ∷ ys) (y ∷ insert_link x ys))
      by true go = m
      by false go =
          ⊎_elim
          (λ e. Memᴰ.tail (go (Memᴰ.head e)))
          (λ k. ⊎_elim (λ e. Memᴰ.head e) (λ j. Memᴰ.tail (go (Memᴰ.tail j))) (Memᴰ.cases_cons k))
          (Memᴰ.cases_cons m)

  insert_first : (ys : List Link) → Leads x ys → insert_link x ys ≡ x ∷ ys
  insert_first [] low = refl
  insert_first (y ∷ ys) low = rw (low y (Memᴰ.head refl))

  still_written : {ys : List Link} → ((y : Link) → Memᴰ y ys → same_ends (ends x) (ends y) ≡ false) → Written ys → Written (insert_link x ys)
  still_written new written_nil = written_cons (λ u m. absurd (Memᴰ.not-nil m)) written_nil
  still_written new (written_cons {x = y} {xs = ys} low s) =
      by (edge_before (ends x) (ends y)) refl (still_written (λ u m. new u (Memᴰ.tail m)) s)
    where
      after : (b : Bool) → edge_before (ends y) (ends x) ≡ b → edge_before (ends x) (ends y) ≡ false → edge_before (ends y) (ends x) ≡ true
      after true e f = e
      after false e f =
          let q : same_ends (ends x) (ends y) ≡ true = ap (λ (k : Edge). same_ends (ends x) k) (sym (before-total (ends x) (ends y) f e)) ∙ ends-refl (ends x) in
          never (sym q ∙ new y (Memᴰ.head refl))

      by : (b : Bool) → edge_before (ends x) (ends y) ≡ b → Written (insert_link x ys) → Written (cond b (x ∷ y ∷ ys) (y ∷ insert_link x ys))
      by true e r = written_cons (leads_cons y ys e low) (written_cons low s)
      by false e r =
          let a = after (edge_before (ends y) (ends x)) refl e in
          written_cons (λ u m. ⊎_elim (λ (q : u ≡ x). ap (λ (k : Link). edge_before (ends y) (ends k)) q ∙ a) (low u) (inserted ys m)) r

  -- those that pass a test, with one link more
  keep_insert : (p : Link → Bool) {ys : List Link} → Written ys → keep p (insert_link x ys) ≡ cond (p x) (insert_link x (keep p ys)) (keep p ys)
  keep_insert p written_nil = refl
  keep_insert p (written_cons {x = y} {xs = ys} low s) = by (edge_before (ends x) (ends y)) (p x) (p y) refl refl refl (keep_insert p s)
    where
      by : (b px py : Bool) → edge_before (ends x) (ends y) ≡ b → p x ≡ px → p y ≡ py → keep p (insert_link x ys) ≡ cond px (insert_link x (keep p ys)) (keep p ys) → keep p (cond b (x ∷ y ∷ ys) (y ∷ insert_link x ys)) ≡ cond px (insert_link x (cond py (y ∷ keep p ys) (keep p ys))) (cond py (y ∷ keep p ys) (keep p ys))
      by true true true e f g go = rw (f, g, e)
      by true true false e f g go =
          rw (f, g) (sym (insert_first (keep p ys) (λ u m. leads_cons y ys e low u (Memᴰ.tail (of_keep p ys m).0))))
      by true false py e f g go = rw (f, g)
      by false true true e f g go = rw (g, e) (ap (λ (l : List Link). y ∷ l) go)
      by false false true e f g go = rw g (ap (λ (l : List Link). y ∷ l) go)
      by false px false e f g go = rw g go

  -- a sum, or a test of all, asks no order
  insert_sum : (f : Link → ℕ) (ys : List Link) → sum f (insert_link x ys) ≡ f x + sum f ys
  insert_sum f [] = refl
  insert_sum f (y ∷ ys) = by (edge_before (ends x) (ends y)) (insert_sum f ys)
    where
      by : (b : Bool) → sum f (insert_link x ys) ≡ f x + sum f ys → sum f (cond b (x ∷ y ∷ ys) (y ∷ insert_link x ys)) ≡ f x + (f y + sum f ys)
      by true e = refl
      by false e = omega (arith, e)

  insert_all : (p : Link → Bool) (ys : List Link) → all p (insert_link x ys) ≡ (p x && all p ys)
  insert_all p [] = refl
  insert_all p (y ∷ ys) = by (edge_before (ends x) (ends y)) (insert_all p ys)
    where
      swap : (a b c : Bool) → (b && (a && c)) ≡ (a && (b && c))
      swap true b c = refl
      swap false true c = refl
      swap false false c = refl

      by : (b : Bool) → all p (insert_link x ys) ≡ (p x && all p ys) → all p (cond b (x ∷ y ∷ ys) (y ∷ insert_link x ys)) ≡ (p x && (p y && all p ys))
      by true e = refl
      by false e = ap (λ (c : Bool). p y && c) e ∙ swap (p x) (p y) (all p ys)

-- a link stands in written order exactly when it stands in the list, and as many times
pub of_order : (rs : List Link) {u : Link} → Memᴰ u (written_order rs) → Memᴰ u rs
of_order [] m = m
of_order (x ∷ rs) m = ⊎_elim (λ e. Memᴰ.head e) (λ k. Memᴰ.tail (of_order rs k)) (inserted x (written_order rs) m)

pub in_order_lem : (rs : List Link) {u : Link} → Memᴰ u rs → Memᴰ u (written_order rs)
in_order_lem [] m = m
in_order_lem (x ∷ rs) m =
    stays x (written_order rs) (⊎_elim (λ e. Memᴰ.head e) (λ k. Memᴰ.tail (in_order_lem rs k)) (Memᴰ.cases_cons m))

pub order_sum : (f : Link → ℕ) (rs : List Link) → sum f (written_order rs) ≡ sum f rs
order_sum f [] = refl
order_sum f (x ∷ rs) = insert_sum x f (written_order rs) ∙ ap (λ (n : ℕ). f x + n) (order_sum f rs)

pub order_count : (p : Link → Bool) (rs : List Link) → count p (written_order rs) ≡ count p rs
order_count p rs = order_sum (λ r. cond (p r) 1 0) rs

pub order_all : (p : Link → Bool) (rs : List Link) → all p (written_order rs) ≡ all p rs
order_all p [] = refl
order_all p (x ∷ rs) = insert_all x p (written_order rs) ∙ ap (λ (b : Bool). p x && b) (order_all p rs)

pub order_length : (rs : List Link) → length (written_order rs) ≡ length rs
order_length rs = sym (ones (written_order rs)) ∙ order_sum (λ r. 1) rs ∙ ones rs
  where
    ones : (ys : List Link) → sum (λ r. 1) ys ≡ length ys
    ones [] = refl
    ones (y ∷ ys) = omega (arith, ones ys)

-- each is written before all that follow it
pub order_written : (rs : List Link) → apart rs ≡ true → Written (written_order rs)
order_written [] t = written_nil
order_written (x ∷ rs) t =
    still_written x
    (λ y m. none_mem (λ s. same_ends (ends x) (ends s)) (distinct-first (λ r s. same_ends (ends r) (ends s)) x rs t) (of_order rs m))
    (order_written rs (distinct-rest (λ r s. same_ends (ends r) (ends s)) x rs t))

-- those that pass a test, in written order
pub order_keep : (p : Link → Bool) (rs : List Link) → apart rs ≡ true → keep p (written_order rs) ≡ written_order (keep p rs)
order_keep p [] t = refl
order_keep p (x ∷ rs) t =
    keep_insert x p (order_written rs rest) ∙ by (p x) (order_keep p rs rest)
  where
    rest : apart rs ≡ true
    rest = distinct-rest (λ r s. same_ends (ends r) (ends s)) x rs t

    by : (b : Bool) → keep p (written_order rs) ≡ written_order (keep p rs) → cond b (insert_link x (keep p (written_order rs))) (keep p (written_order rs)) ≡ written_order (cond b (x ∷ keep p rs) (keep p rs))
    by true e = ap (insert_link x) e
    by false e = e

-- of two links the one that is written first; the second may be none
abbrev pub earlier_of : Link → List Link → List Link
earlier_of x [] = x ∷ []
earlier_of x (m ∷ ms) = cond (edge_before (ends x) (ends m)) (x ∷ []) (m ∷ ms)

-- so the first that passes is found in no order, link by link
pub order_front : (p : Link → Bool) (x : Link) (rs : List Link) → apart rs ≡ true → take 1 (keep p (written_order (x ∷ rs))) ≡ cond (p x) (earlier_of x (take 1 (keep p (written_order rs)))) (take 1 (keep p (written_order rs)))
order_front p x rs t = ap (take 1) (keep_insert x p (order_written rs t)) ∙ by (p x)
  where
    front : (ys : List Link) → take 1 (insert_link x ys) ≡ earlier_of x (take 1 ys)
    front [] = refl
    front (y ∷ ys) = at (edge_before (ends x) (ends y))
      where
        at : (b : Bool) → take 1 (cond b (x ∷ y ∷ ys) (y ∷ insert_link x ys)) ≡ cond b (x ∷ []) (y ∷ [])
        at true = refl
        at false = refl

    by : (b : Bool) → take 1 (cond b (insert_link x (keep p (written_order rs))) (keep p (written_order rs))) ≡ cond b (earlier_of x (take 1 (keep p (written_order rs)))) (take 1 (keep p (written_order rs)))
    by true = front (keep p (written_order rs))
    by false = refl

-- s is written before m
abbrev pub ahead : Link → Link → Bool
ahead m s = edge_before (ends s) (ends m)

-- the first has none before it
pub none_ahead : (m : Link) (ys : List Link) → Leads m ys → count (ahead m) (m ∷ ys) ≡ 0
none_ahead m ys low = none (m ∷ ys) not-ahead
  where
    not-ahead : (u : Link) → Memᴰ u (m ∷ ys) → ahead m u ≡ false
    not-ahead u k =
        not_true_false (ahead m u) (λ e.
        ⊎_elim
        (λ (q : u ≡ m). before_irrefl (ends m) (ap (λ (x : Link). ahead m x) (sym q) ∙ e))
        (λ j. before_irrefl (ends m) (before_trans (ends m) (ends u) (ends m) (low u j) e))
        (Memᴰ.cases_cons k))

    none : (rs : List Link) → ((r : Link) → Memᴰ r rs → ahead m r ≡ false) → count (ahead m) rs ≡ 0
    none [] h = refl
    none (r ∷ rs) h = rw (h r (Memᴰ.head refl)) (zero-add _ ∙ none rs (λ s k. h s (Memᴰ.tail k)))

-- a link's place is the number of those before it
abbrev Stands : Link → List Link → Type 0
Stands m ys = drop (count (ahead m) ys) ys ≡ m ∷ drop (count (ahead m) ys + 1) ys

place : {ys : List Link} → Written ys → (m : Link) → Memᴰ m ys → Stands m ys
place written_nil m k = absurd (Memᴰ.not-nil k)
place (written_cons {x = y} {xs = ys} low s) m k = ⊎_elim first (λ j. later j (place s m j)) (Memᴰ.cases_cons k)
  where
    front_stands : (n : ℕ) → n ≡ 0 → drop n (y ∷ ys) ≡ y ∷ drop (n + 1) (y ∷ ys)
    front_stands n z = rw z

    first : m ≡ y → Stands m (y ∷ ys)
    first e = subst (λ (x : Link). Stands x (y ∷ ys)) (sym e) (front_stands (count (ahead y) (y ∷ ys)) (none_ahead y ys low))

    later : Memᴰ m ys → Stands m ys → Stands m (y ∷ ys)
    later j go =
        let n = count (ahead m) ys in
        let e : 1 + n ≡ suc n = omega arith in
        let f : 1 + n + 1 ≡ suc (n + 1) = omega arith in
        rw (low m j, f, e) go

pub order_place : (rs : List Link) → apart rs ≡ true → (m : Link) → Memᴰ m rs → drop (count (ahead m) rs) (written_order rs) ≡ m ∷ drop (count (ahead m) rs + 1) (written_order rs)
order_place rs t m k =
    ap (λ (n : ℕ). drop n (written_order rs)) (sym (order_count (ahead m) rs))
    ∙ place (order_written rs t) m (in_order_lem rs k)
    ∙ ap (λ (n : ℕ). m ∷ drop (n + 1) (written_order rs)) (order_count (ahead m) rs)

-- and the one with none before it is first
pub order_first : (rs : List Link) → apart rs ≡ true → (m : Link) → Memᴰ m rs → count (ahead m) rs ≡ 0 → take 1 (written_order rs) ≡ m ∷ []
order_first rs t m k e =
    let q : drop 0 (written_order rs) ≡ m ∷ drop 1 (written_order rs) = rw e at (order_place rs t m k) in
    ap (take 1) q
