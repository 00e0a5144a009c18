-- Going along the neighbours of one key, and along the heads: each is what passes a test in a rising list, and so is rising.
use Prim.Native.Nat.{ℕ, ◌+◌, ◌<◌}
use mathlib.Core.Path.{◌≡◌, refl, sym, ap, ◌∙◌}
use mathlib.Core.Bool.{Bool, true, false, cond, not, ◌||◌}
use mathlib.Core.List.Memᴰ
use mathlib.Core.List.{List, [], ◌∷◌, ◌++◌, Memᴰ}
use mathlib.Core.Logic.{⊎_elim}
use native.Mathlib.Omega.{arith}
use borrow.Author.Tests.{eq-eqb, ne_eqb}
use lib.Dec.{eqb}
use lib.ListN.{length}
use lib.Seq.{append_snoc}
use Rattle.kit.specs.Loops.{first_or, any, keep}
use Rattle.kit.proofs.Bools.{tests, and_true_r}
use Rattle.kit.proofs.Members.{of_keep}
use Rattle.handle.specs.declared.Handle.{Handle}
use Rattle.handle.specs.Handle.{dir_of, same_handle}
use Rattle.store.specs.declared.Counts.{Counts}
use Rattle.store.specs.Graph.{Graph, handle, graph_of}
use Rattle.store.specs.Views.{live_node}
use Rattle.formed.specs.WellFormed.{room_for, good_graph, well_formed}
use Rattle.sides.specs.Sides.{right_of, next_above}
use Rattle.sides.proofs.Rising.{Sorted, sorted_nil, sorted_cons, rest_above, rest_all, next-step, next_end}
use Rattle.sides.proofs.Search.{side_sorted}
use Rattle.sides.proofs.Sides.{side_number, good_number}
use Rattle.groups.specs.Groups.{same_key, is_reverse, heads}
use Rattle.groups.specs.Search.{of_key, heads_of, first_met}
use Rattle.groups.proofs.Keys.{key_refl}

first-keep : {A : Type 0} (d : A) (p k : A → Bool) (rs : List A) → first_or d p (keep k rs) ≡ first_or d k (keep p rs)
first-keep d p k [] = refl
first-keep {A} d p k (a ∷ rs) = by (p a) (k a) refl refl (first-keep d p k rs)
  where
    by : (x y : Bool) → p a ≡ x → k a ≡ y → first_or d p (keep k rs) ≡ first_or d k (keep p rs) → first_or d p (cond y (a ∷ keep k rs) (keep k rs)) ≡ first_or d k (cond x (a ∷ keep p rs) (keep p rs))
    by true true e f q = rw (e, f)
    by true false e f q = rw f q
    by false true e f q = rw e q
    by false false e f q = q

pub sorted_keep : (p : Handle → Bool) {xs : List Handle} → Sorted xs → Sorted (keep p xs)
sorted_keep p sorted_nil = sorted_nil
sorted_keep p (sorted_cons {x} {xs} low s) = by (p x) (sorted_keep p s)
  where
    by : (b : Bool) → Sorted (keep p xs) → Sorted (cond b (x ∷ keep p xs) (keep p xs))
    by true r = sorted_cons (λ y m. low y (of_keep p xs m).0) r
    by false r = r

-- the first that passes, of what is left above a number: a turn of the loop that looks for it, and its ends
abbrev pub first_left : (Handle → Bool) → List Handle → ℕ → Handle
first_left p xs at = first_or (handle 0) p (rest_above at xs)

pub first_left_lem : (p : Handle → Bool) (xs : List Handle) (above : ℕ) → (first_left p xs above).packed ≡ next_above above (keep p xs)
first_left_lem p xs above = ap (λ (h : Handle). h.packed) (sym (first-keep (handle 0) _ p xs))

module _ (p : Handle → Bool) {xs : List Handle} (s : Sorted xs) (above at w : ℕ) (i : first_left p xs at ≡ first_left p xs above) (e : w ≡ next_above at xs) where
  result : {h : Handle} → first_left p xs at ≡ h → h.packed ≡ next_above above (keep p xs)
  result q = ap (λ (h : Handle). h.packed) (sym q ∙ i) ∙ first_left_lem p xs above

  pub along_end : w ≡ 0 → 0 ≡ next_above above (keep p xs)
  along_end z = result (ap (first_or (handle 0) p) (next_end at xs (sym z ∙ e)))

  pub along_hit : 0 < w → p (handle w) ≡ true → w ≡ next_above above (keep p xs)
  along_hit n t = result {h = handle w} (rw ((next-step at w s e n).rest, t))

  pub along_miss : 0 < w → p (handle w) ≡ false → first_left p xs w ≡ first_left p xs above
  along_miss n t = sym (rw ((next-step at w s e n).rest, t)) ∙ i

  pub along_less : 0 < w → length (rest_above w xs) < length (rest_above at xs)
  along_less n = rw (next-step at w s e n).rest (omega arith)

-- what stands before another is lower
sorted_before : (met : List Handle) (u : Handle) (us : List Handle) → Sorted (met ++ (u ∷ us)) → (m : Handle) → Memᴰ m met → m.packed < u.packed
sorted_before [] u us s m k = absurd (Memᴰ.not-nil k)
sorted_before (x ∷ met) u us (sorted_cons low s) m k =
    ⊎_elim
    (λ (e : m ≡ x). omega (arith, ap (λ (h : Handle). h.packed) e, low u (Memᴰ.append_right met (Memᴰ.head refl))))
    (sorted_before met u us s m)
    (Memᴰ.cases_cons k)

module _ (g : Graph) where
  -- u is the first of its key where none before it has that key
  met_first : (met us : List Handle) (u : Handle) → ((m : Handle) → Memᴰ m met → m.packed < u.packed) → first_met g (met ++ (u ∷ us)) u ≡ not (any (same_key g u) met)
  met_first [] us u low = rw (key_refl g u) (eq-eqb u.packed u.packed refl)
  met_first (m ∷ met) us u low = by (same_key g u m) (met_first met us u (λ x k. low x (Memᴰ.tail k)))
    where
      by : (b : Bool) → first_met g (met ++ (u ∷ us)) u ≡ not (any (same_key g u) met) → same_handle (cond b m (first_or (handle 0) (same_key g u) (met ++ (u ∷ us)))) u ≡ not (b || any (same_key g u) met)
      by true q = ne_eqb m.packed u.packed (λ e. omega (arith, low m (Memᴰ.head refl)))
      by false q = q

  heads_are : (met us : List Handle) → Sorted (met ++ us) → heads g met us ≡ keep (first_met g (met ++ us)) us
  heads_are met [] s = refl
  heads_are met (u ∷ us) s =
      let e : met ++ (u ∷ []) ++ us ≡ met ++ (u ∷ us) = append_snoc met u us in
      by (any (same_key g u) met) (met_first met us u (sorted_before met u us s)) (rw e at (heads_are (met ++ (u ∷ [])) us (rw e s)))
    where
      by : (b : Bool) → first_met g (met ++ (u ∷ us)) u ≡ not b → heads g (met ++ (u ∷ [])) us ≡ keep (first_met g (met ++ (u ∷ us))) us → cond b (heads g (met ++ (u ∷ [])) us) (u ∷ heads g (met ++ (u ∷ [])) us) ≡ keep (first_met g (met ++ (u ∷ us))) (u ∷ us)
      by true t q = rw t q
      by false t q = rw t (ap (λ (l : List Handle). u ∷ l) q)

  -- the heads are the neighbours that are the first met of their key, in the order of the neighbours
  pub heads-first : (v : Handle) → heads_of g v ≡ keep (first_met g (right_of g v)) (right_of g v)
  heads-first v = heads_are [] (right_of g v) (side_sorted false g v)

  pub right_sorted : (v : Handle) → Sorted (right_of g v)
  right_sorted v = side_sorted false g v

  pub key_sorted : (v u : Handle) → Sorted (of_key g v u)
  key_sorted v u = sorted_keep (same_key g u) (right_sorted v)

  pub heads_sorted : (v : Handle) → Sorted (heads_of g v)
  heads_sorted v = rw (heads-first v) (sorted_keep (first_met g (right_of g v)) (right_sorted v))

-- in a well-formed store no neighbour has number 0
module _ (nodes letters links : List ℕ) (c : Counts) (t : well_formed nodes letters links c ≡ true) where
  abbrev g : Graph
  g = graph_of nodes letters links c

  pub formed_number : live_node 0 g.nodes ≡ false
  formed_number = good_number g (and_true_r (room_for nodes letters links c) (good_graph g) t)

  pub right-number : (v u : Handle) → Memᴰ u (right_of g v) → 0 < u.packed
  right-number v = side_number false g v formed_number

  -- so going along a part of them starts at 0
  pub part-all : (p : Handle → Bool) (v : Handle) → rest_above 0 (keep p (right_of g v)) ≡ keep p (right_of g v)
  part-all p v = rest_all 0 (keep p (right_of g v)) (λ u m. right-number v u (of_keep p (right_of g v) m).0)

  pub first_met_lem : (v u : Handle) → next_above 0 (of_key g v u) ≡ (first_or (handle 0) (same_key g u) (right_of g v)).packed
  first_met_lem v u = sym (first_left_lem (same_key g u) (right_of g v) 0) ∙ ap (λ (l : List Handle). (first_or (handle 0) (same_key g u) l).packed) (rest_all 0 (right_of g v) (right-number v))

  pub heads-all : (v : Handle) → rest_above 0 (heads_of g v) ≡ heads_of g v
  heads-all v = rw (heads-first g v) (part-all (first_met g (right_of g v)) v)

-- how many are reversed, one more passed
reversed_by : (b : Bool) (d : ℕ) (h : Handle) (tail : List Handle) → d < 2 → eqb d 1 ≡ b → length (cond b (h ∷ tail) tail) ≡ d + length tail
reversed_by true d h tail k e = omega (arith, tests)
reversed_by false d h tail k e = omega (arith, tests)

pub reversed-more : (h : Handle) {rs tail : List Handle} → rs ≡ h ∷ tail → length (keep is_reverse rs) ≡ dir_of h + length (keep is_reverse tail)
reversed-more h {rs} {tail} e = rw e (reversed_by (is_reverse h) (dir_of h) h (keep is_reverse tail) (omega arith) refl)
