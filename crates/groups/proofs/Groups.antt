-- What the groups are: 01 "Prefix, groups, collapse", second entry.
use Prim.Native.Nat.{ℕ, ◌+◌, ◌≤◌}
use mathlib.Core.Path.{◌≡◌, refl, sym, ap, ◌∙◌, fun_ext}
use mathlib.Core.Bool.{Bool, true, false, cond, ◌||◌}
use mathlib.Core.List.Memᴰ
use mathlib.Core.List.{List, [], ◌∷◌, ◌++◌, map, reverse, reverse-cons, Memᴰ}
use mathlib.Core.Logic.{⊎_elim, ◌↔◌}
use native.Mathlib.Omega.{arith}
use borrow.Author.Tests.{eq-eqb}
use lib.ListN.{length, length-append}
use Rattle.kit.specs.Loops.{any, sum, count, keep}
use Rattle.kit.proofs.Bools.{never, not_of, or_false_l, or_false_r, same_test}
use Rattle.kit.proofs.Lists.{any_same}
use Rattle.kit.proofs.Meaning.{at_mem, any_mem, any_some, any_append, sum-map}
use Rattle.kit.proofs.Members.{in_keep, of_keep, in_lines, of_lines}
use Rattle.kit.proofs.Steps.{count_miss}
use Rattle.handle.specs.declared.Handle.{Handle}
use Rattle.handle.specs.Handle.{same_handle}
use Rattle.handle.proofs.Handles.{same_handle_lem}
use Rattle.store.specs.Graph.{Graph}
use Rattle.sides.specs.Sides.{right_of}
use Rattle.groups.specs.Groups.{same_key, is_reverse, arranged, heads, group_of, groups_of, members_of}
use Rattle.groups.specs.Search.{heads_of, first_met}
use Rattle.groups.proofs.Keys.{key_refl, key_sym, key_trans}
use Rattle.groups.proofs.Placing.{forward, downs, ups, length-arranged}
use Rattle.groups.proofs.Along.{heads-first}

in_reverse : {A : Type 0} {a : A} {l : List A} → Memᴰ a l → Memᴰ a (reverse l)
in_reverse (Memᴰ.head {x} {xs} e) = rw (reverse-cons x xs) (Memᴰ.append_right (reverse xs) (Memᴰ.head e))
in_reverse (Memᴰ.tail {x} {xs} m) = rw (reverse-cons x xs) (Memᴰ.append_left (x ∷ []) (in_reverse m))

of_reverse : {A : Type 0} (l : List A) {a : A} → Memᴰ a (reverse l) → Memᴰ a l
of_reverse [] m = m
of_reverse (x ∷ xs) m =
    ⊎_elim (λ k. Memᴰ.tail (of_reverse xs k)) (λ k. Memᴰ.head (Memᴰ.eq_of_singleton k)) (Memᴰ.append_cases (reverse xs) (rw (reverse-cons x xs) at m))

-- an arranged list has the same members
in_arranged : {u : Handle} {ms : List Handle} → Memᴰ u ms → Memᴰ u (arranged ms)
in_arranged {u} {ms} m = by (is_reverse u) refl
  where
    by : (b : Bool) → is_reverse u ≡ b → Memᴰ u (arranged ms)
    by true e = Memᴰ.append_left (ups ms) (in_reverse (in_keep is_reverse m e))
    by false e = Memᴰ.append_right (reverse (downs ms)) (in_keep forward m (not_of (is_reverse u) e))

of_arranged : (ms : List Handle) {u : Handle} → Memᴰ u (arranged ms) → Memᴰ u ms
of_arranged ms m =
    ⊎_elim (λ k. (of_keep is_reverse ms (of_reverse (downs ms) k)).0) (λ k. (of_keep forward ms k).0) (Memᴰ.append_cases (reverse (downs ms)) m)

counted : (p : Handle → Bool) (hs : List Handle) → count p hs ≡ 1 → (h : Handle) × Memᴰ h hs × (p h ≡ true)
counted p hs e = by (any p hs) refl
  where
    none : (hs : List Handle) → any p hs ≡ false → count p hs ≡ 0
    none [] f = refl
    none (h ∷ hs) f = count_miss p {tail = hs} refl (or_false_l (p h) (any p hs) f) ∙ none hs (or_false_r (p h) (any p hs) f)

    by : (b : Bool) → any p hs ≡ b → (h : Handle) × Memᴰ h hs × (p h ≡ true)
    by true t = any_some p hs t
    by false f = absurd (omega (arith, none hs f))

module _ (g : Graph) where
  key_comm : (u w : Handle) → same_key g u w ≡ same_key g w u
  key_comm u w = same_test _ _ (key_sym g u w) (key_sym g w u)

  key_swap : (u w x : Handle) → same_key g u w ≡ true → same_key g w x ≡ same_key g u x
  key_swap u w x t = same_test _ _ (key_trans g u w x t) (key_trans g w u x (key_sym g u w t))

  -- of the heads one has the key of x, where no one met before them has it
  one-head : (met us : List Handle) (x : Handle) → count (λ h. same_key g h x) (heads g met us) ≡ cond (any (same_key g x) met) 0 (cond (any (same_key g x) us) 1 0)
  one-head met [] x = none (any (same_key g x) met)
    where
      none : (b : Bool) → ◌≡◌ {A = ℕ} 0 (cond b 0 0)
      none true = refl
      none false = refl
  one-head met (u ∷ us) x =
      let later = heads g (met ++ (u ∷ [])) us in
      head_or_not (any (same_key g u) met) later
      ∙ by (any (same_key g u) met) (same_key g u x) (any (same_key g x) met) (any (same_key g x) us) (count (λ h. same_key g h x) later)
      (λ t. any_same (same_key g x) (same_key g u) met (λ m k. key_swap u x m t))
      (one-head (met ++ (u ∷ [])) us x
      ∙ ap (λ (b : Bool). cond b 0 (cond (any (same_key g x) us) 1 0)) (any_append (same_key g x) met (u ∷ []) ∙ ap (λ (b : Bool). any (same_key g x) met || (b || false)) (key_comm x u)))
      ∙ ap (λ (b : Bool). cond (any (same_key g x) met) 0 (cond (b || any (same_key g x) us) 1 0)) (key_comm u x)
    where
      head_or_not : (a : Bool) (hs : List Handle) → count (λ h. same_key g h x) (cond a hs (u ∷ hs)) ≡ cond a (count (λ h. same_key g h x) hs) (cond (same_key g u x) 1 0 + count (λ h. same_key g h x) hs)
      head_or_not true hs = refl
      head_or_not false hs = refl

      by : (a b m l : Bool) (n : ℕ) → (b ≡ true → m ≡ a) → n ≡ cond (m || (b || false)) 0 (cond l 1 0) → cond a n (cond b 1 0 + n) ≡ cond m 0 (cond (b || l) 1 0)
      by true true true l n h e = e
      by true true false l n h e = never (sym (h refl))
      by false true true l n h e = never (h refl)
      by false true false l n h e = omega arith
      by true false true l n h e = e
      by false false true l n h e = omega arith
      by true false false l n h e = e
      by false false false l n h e = omega arith

  pub head-once : (v x : Handle) → Memᴰ x (right_of g v) → count (λ h. same_key g h x) (heads_of g v) ≡ 1
  head-once v x m = one-head [] (right_of g v) x ∙ ap (λ (b : Bool). cond b 1 0) (any_mem (same_key g x) m (key_refl g x))

  -- the groups' sizes add up
  size-more : (k : Handle → Bool) (f : Handle → List Handle) (x : Handle) (hs : List Handle) → sum (λ h. length (cond (k h) (x ∷ f h) (f h))) hs ≡ count k hs + sum (λ h. length (f h)) hs
  size-more k f x [] = refl
  size-more k f x (h ∷ hs) = by (k h) _ (count k hs) (sum (λ h. length (f h)) hs) (size-more k f x hs)
    where
      by : (b : Bool) (n m l : ℕ) → n ≡ m + l → length (cond b (x ∷ f h) (f h)) + n ≡ cond b 1 0 + m + (length (f h) + l)
      by true n m l e = omega arith
      by false n m l e = omega arith

  sizes : (hs us : List Handle) → ((x : Handle) → Memᴰ x us → count (λ h. same_key g h x) hs ≡ 1) → sum (λ h. length (keep (same_key g h) us)) hs ≡ length us
  sizes hs [] one = none hs
    where
      none : (hs : List Handle) → sum (λ (h : Handle). 0) hs ≡ 0
      none [] = refl
      none (h ∷ hs) = omega (arith, none hs)
  sizes hs (x ∷ us) one =
      size-more (λ h. same_key g h x) (λ h. keep (same_key g h) us) x hs
      ∙ omega (arith, one x (Memᴰ.head refl), sizes hs us (λ y m. one y (Memᴰ.tail m)))

  members_size : (us hs : List Handle) → length (members_of (map (group_of g us) hs)) ≡ sum (λ h. length (keep (same_key g h) us)) hs
  members_size us [] = refl
  members_size us (h ∷ hs) = omega (arith, length-append (group_of g us h) (members_of (map (group_of g us) hs)), length-arranged (keep (same_key g h) us), members_size us hs)

  pub groups-length : (v : Handle) → length (members_of (groups_of g v)) ≡ length (right_of g v)
  groups-length v = members_size (right_of g v) (heads_of g v) ∙ sizes (heads_of g v) (right_of g v) (head-once v)

  pub some_head : (v x : Handle) → Memᴰ x (right_of g v) → (h : Handle) × Memᴰ h (heads_of g v) × (same_key g h x ≡ true)
  some_head v x m = counted (λ h. same_key g h x) (heads_of g v) (head-once v x m)

  -- a head is a neighbour
  head_member : (v : Handle) {h : Handle} → Memᴰ h (heads_of g v) → Memᴰ h (right_of g v)
  head_member v m = (of_keep (first_met g (right_of g v)) (right_of g v) (rw (heads-first g v) at m)).0

  -- who stands in a group
  pub group_member : (us : List Handle) (h u : Handle) → Memᴰ u (group_of g us h) ↔ (Memᴰ u us × (same_key g h u ≡ true))
  group_member us h u = (
    λ m. of_keep (same_key g h) us (of_arranged (keep (same_key g h) us) m),
    λ k. in_arranged (in_keep (same_key g h) k.0 k.1),
  )

  pub of_groups : (v : Handle) {ms : List Handle} → Memᴰ ms (groups_of g v) → (h : Handle) × Memᴰ h (heads_of g v) × (group_of g (right_of g v) h ≡ ms)
  of_groups v m = Memᴰ.of_map (group_of g (right_of g v)) (heads_of g v) m

  -- the members are the live right neighbours
  pub members_are : (v u : Handle) → Memᴰ u (right_of g v) ↔ Memᴰ u (members_of (groups_of g v))
  members_are v u = (
    λ m.
        let r = some_head v u m in
        in_lines (λ ms. ms) (Memᴰ.map (group_of g (right_of g v)) r.1) ((group_member (right_of g v) r.0 u).1 (m, r.2)),
    λ m.
        let r = of_lines (λ ms. ms) (groups_of g v) m in
        let s = of_groups v r.1 in
        ((group_member (right_of g v) s.0 u).0 (rw s.2 r.2)).0,
  )

  -- each stands in exactly one group
  pub one-group : (v u : Handle) → Memᴰ u (right_of g v) → count (any (same_handle u)) (groups_of g v) ≡ 1
  one-group v u m =
      sum-map (λ ms. cond (any (same_handle u) ms) 1 0) (group_of g (right_of g v)) (heads_of g v)
      ∙ ap (λ (p : Handle → Bool). count p (heads_of g v)) (fun_ext (λ h. same_test _ _ (here h) (there h)))
      ∙ head-once v u m
    where
      here : (h : Handle) → any (same_handle u) (group_of g (right_of g v) h) ≡ true → same_key g h u ≡ true
      here h t =
          let r = any_some (same_handle u) (group_of g (right_of g v) h) t in
          ((group_member (right_of g v) h u).0 (Memᴰ.cast (same_handle_lem u r.0 r.2) r.1)).1

      there : (h : Handle) → same_key g h u ≡ true → any (same_handle u) (group_of g (right_of g v) h) ≡ true
      there h t = any_mem (same_handle u) ((group_member (right_of g v) h u).1 (m, t)) (eq-eqb u.packed u.packed refl)

  -- two of them stand in one group exactly when they have the same key
  pub same-group : (v u w : Handle) → Memᴰ u (right_of g v) → Memᴰ w (right_of g v) → ((ms : List Handle) × Memᴰ ms (groups_of g v) × Memᴰ u ms × Memᴰ w ms) ↔ (same_key g u w ≡ true)
  same-group v u w m k = (
    λ r.
        let s = of_groups v r.1 in
        let h = s.0 in
        let a = ((group_member (right_of g v) h u).0 (rw s.2 r.2)).1 in
        let b = ((group_member (right_of g v) h w).0 (rw s.2 r.3)).1 in
        key_trans g u h w (key_sym g h u a) b,
    λ t.
        let r = some_head v u m in
        let h = r.0 in
        (group_of g (right_of g v) h, Memᴰ.map (group_of g (right_of g v)) r.1, (group_member (right_of g v) h u).1 (m, r.2), (group_member (right_of g v) h w).1 (k, key_trans g h u w r.2 t)),
  )

  -- no group is empty
  pub some_member : (v : Handle) {ms : List Handle} → Memᴰ ms (groups_of g v) → 1 ≤ length ms
  some_member v {ms} m =
      let s = of_groups v m in
      let h = s.0 in
      let r = at_mem (rw s.2 at ((group_member (right_of g v) h h).1 (head_member v s.1, key_refl g h))) in
      omega (arith, r.1)

  -- the groups stand by their first met member: there is one for each neighbour that is the first of its key, in their order
  pub by_first_met : (v : Handle) → groups_of g v ≡ map (group_of g (right_of g v)) (keep (first_met g (right_of g v)) (right_of g v))
  by_first_met v = ap (map (group_of g (right_of g v))) (heads-first g v)
