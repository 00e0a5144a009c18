-- The laws of a link's written form, and of the order of written links.
use Prim.Native.Nat.{ℕ, ◌≤◌, ◌<◌}
use mathlib.Core.Path.{◌≡◌, refl, sym, ap, ap₂, ◌∙◌, subst}
use mathlib.Core.Bool.{Bool, true, false, cond, ◌&&◌, ◌||◌}
use mathlib.Core.Logic.{⊎_elim, ◌⊎◌, inl, inr}
use native.Mathlib.Omega.{arith}
use borrow.Author.Tests.{eq-eqb, lt-ltb, ltb-true, eqb-true}
use lib.Dec.{eqb, ltb, leb}
use Rattle.kit.proofs.Bools.{tests, never, and_true_l, and_true_r, and_both, or_left, or_right, or_cases, same_test}
use Rattle.std.specs.Prelude.{Some}
use Rattle.std.specs.Ordering.{is_lt, is_some_and, partial_lt, partial_ordering_then}
use Rattle.std.specs.declared.cmp.Ordering.TheVariants.{Less, Equal, Greater}
use Rattle.handle.specs.contracts.EdgePartialOrd.TheImpl as edge_order
use Rattle.handle.specs.declared.Edge.{Edge}
use Rattle.handle.specs.Handle.{id_of, dir_of, flip, same_handle, pack}
use Rattle.handle.specs.Edge.{edge, turned, both_forward, written, same_ends, same_link, edge_before}
use Rattle.handle.proofs.Handles.{flip-flip, id-flip, dir_flip, same_handle_lem, other_dir, before_packed}

pub turned-turned : (e : Edge) → turned (turned e) ≡ e
turned-turned e = simp flip-flip

pub same_ends_lem : (e f : Edge) → same_ends e f ≡ true → e ≡ f
same_ends_lem e f t =
    ap₂ edge
    (same_handle_lem _ _ (and_true_l (same_handle e.from f.from) (same_handle e.to f.to) t))
    (same_handle_lem _ _ (and_true_r (same_handle e.from f.from) (same_handle e.to f.to) t))

pub ends-refl : (e : Edge) → same_ends e e ≡ true
ends-refl e = rw (eq-eqb e.from.packed e.from.packed refl) (eq-eqb e.to.packed e.to.packed refl)

-- not both forms are both-forward
one-forward : (e : Edge) → both_forward e ≡ true → both_forward (turned e) ≡ true → ⊥
one-forward e p q =
    let f = and_true_l (eqb (dir_of e.from) 0) (eqb (dir_of e.to) 0) p in
    let g = and_true_r (eqb (dir_of (flip e.to)) 0) (eqb (dir_of (flip e.from)) 0) q in
    omega (arith, tests, dir_flip e.from)

-- where neither is, the two directions differ
mixed : (e : Edge) → both_forward e ≡ false → both_forward (turned e) ≡ false → dir_of e.from ≡ dir_of e.to → ⊥
mixed e p q d = by (eqb (dir_of e.from) 0) refl
  where
    by : (b : Bool) → eqb (dir_of e.from) 0 ≡ b → ⊥
    by true f =
        let g : both_forward e ≡ true = and_both _ _ f (eq-eqb (dir_of e.to) 0 (omega (arith, tests))) in
        never (sym g ∙ p)
    by false f =
        let g : both_forward (turned e) ≡ true =
        and_both _ _ (eq-eqb (dir_of (flip e.to)) 0 (omega (arith, tests, dir_flip e.to))) (eq-eqb (dir_of (flip e.from)) 0 (omega (arith, tests, dir_flip e.from)))
        in
        never (sym g ∙ q)

-- and with one id the two forms are the same
one_form : (e : Edge) → both_forward e ≡ false → both_forward (turned e) ≡ false → id_of e.from ≡ id_of e.to → turned e ≡ e
one_form e p q i =
    ap₂ edge
    (sym (other_dir e.from e.to i (mixed e p q)))
    (sym (other_dir e.to e.from (sym i) (λ d. mixed e p q (sym d))))

abbrev first_lower : Edge → Bool
first_lower e = leb (id_of e.from) (id_of (turned e).from)

-- the choice between two forms e and t, by the tests of both
abbrev chosen : Bool → Bool → Bool → Edge → Edge → Edge
chosen p q r e t = cond p e (cond q t (cond r e t))

choice : (p q r s : Bool) (e t : Edge) → (p ≡ true → q ≡ true → ⊥) → (p ≡ false → q ≡ false → r ≡ true → s ≡ true → t ≡ e) → (r ≡ false → s ≡ false → ⊥) → chosen q p s t e ≡ chosen p q r e t
choice true true r s e t x y z = absurd (x refl refl)
choice true false r s e t x y z = refl
choice false true r s e t x y z = refl
choice false false true true e t x y z = y refl refl refl refl
choice false false true false e t x y z = refl
choice false false false true e t x y z = refl
choice false false false false e t x y z = absurd (z refl refl)

-- both forms of a link have one written form
pub written-turned : (e : Edge) → written (turned e) ≡ written e
unfolding written
written-turned e =
    simp flip-flip
    (choice (both_forward e) (both_forward (turned e)) (first_lower e) (leb (id_of (flip e.to)) (id_of e.from)) e (turned e)
    (one-forward e)
    (λ p q r s. one_form e p q (omega (arith, tests, id-flip e.to)))
    (λ r s. omega (arith, tests)))

-- the written form is one of the two
either : (p q r : Bool) (e t : Edge) → (chosen p q r e t ≡ e) ⊎ (chosen p q r e t ≡ t)
either true q r e t = inl refl
either false true r e t = inr refl
either false false true e t = inl refl
either false false false e t = inr refl

pub written_either : (e : Edge) → (written e ≡ e) ⊎ (written e ≡ turned e)
unfolding written
written_either e = either (both_forward e) (both_forward (turned e)) (first_lower e) e (turned e)

-- a written form is its own
pub written-written : (e : Edge) → written (written e) ≡ written e
written-written e = ⊎_elim (λ p. ap written p) (λ p. ap written p ∙ written-turned e) (written_either e)

-- two links are the same exactly when their written forms are equal
pub written_same : (e f : Edge) → same_link e f ≡ true → written e ≡ written f
written_same e f t =
    ⊎_elim
    (λ p. ap written (same_ends_lem e f p))
    (λ p. sym (written-turned e) ∙ ap written (same_ends_lem (turned e) f p))
    (or_cases (same_ends e f) (same_ends (turned e) f) t)

pub link_of : (e f : Edge) → (e ≡ f) ⊎ (turned e ≡ f) → same_link e f ≡ true
link_of e f =
    ⊎_elim
    (λ p. or_left (same_ends e f) _ (subst (λ (x : Edge). same_ends e x ≡ true) p (ends-refl e)))
    (λ p. or_right (same_ends e f) _ (subst (λ (x : Edge). same_ends (turned e) x ≡ true) p (ends-refl (turned e))))

pub same-written : (e f : Edge) → written e ≡ written f → same_link e f ≡ true
same-written e f w =
    link_of e f
    (⊎_elim
    (λ p. ⊎_elim (λ q. inl (sym p ∙ w ∙ q)) (λ q. inr (ap turned (sym p ∙ w ∙ q) ∙ turned-turned f)) (written_either f))
    (λ p. ⊎_elim (λ q. inr (sym p ∙ w ∙ q)) (λ q. inl (sym (turned-turned e) ∙ ap turned (sym p ∙ w ∙ q) ∙ turned-turned f)) (written_either f))
    (written_either e))

pub same_link_lem : (e f : Edge) → same_link e f ≡ same_ends (written e) (written f)
same_link_lem e f =
    same_test _ _
    (λ t. subst (λ (x : Edge). same_ends (written e) x ≡ true) (written_same e f t) (ends-refl (written e)))
    (λ t. same-written e f (same_ends_lem _ _ t))

-- the four links between a node and itself: v to v, v to flip v, flip v to v, flip v to flip v
pub worked_loops : (written (edge (pack 7 0) (pack 7 0)) ≡ edge (pack 7 0) (pack 7 0)) × (written (edge (pack 7 0) (pack 7 1)) ≡ edge (pack 7 0) (pack 7 1)) × (written (edge (pack 7 1) (pack 7 0)) ≡ edge (pack 7 1) (pack 7 0)) × (written (edge (pack 7 1) (pack 7 1)) ≡ edge (pack 7 0) (pack 7 0))
unfolding written flip
worked_loops = (refl, refl, refl, refl)

-- 9+ to 4+ stays though 4 is smaller, 9- to 4- is 4+ to 9+, and a mixed one starts at the smaller id
pub worked_pairs : (written (edge (pack 9 0) (pack 4 0)) ≡ edge (pack 9 0) (pack 4 0)) × (written (edge (pack 9 1) (pack 4 1)) ≡ edge (pack 4 0) (pack 9 0)) × (written (edge (pack 9 0) (pack 4 1)) ≡ edge (pack 4 0) (pack 9 1)) × (written (edge (pack 4 1) (pack 9 0)) ≡ edge (pack 4 1) (pack 9 0))
unfolding written flip
worked_pairs = (refl, refl, refl, refl)

-- the order of written links, on packed numbers
pub edge_before_lem : (e f : Edge) → edge_before e f ≡ (ltb e.from.packed f.from.packed || (eqb e.from.packed f.from.packed && ltb e.to.packed f.to.packed))
unfolding edge_before
edge_before_lem e f = simp before_packed

-- e stands before f, as a proposition
pub record Before (e f : Edge) : Type 0 where
  pub first : e.from.packed ≤ f.from.packed
  pub second : e.from.packed ≡ f.from.packed → e.to.packed < f.to.packed

module _ (e f : Edge) where
  lower : Bool
  lower = ltb e.from.packed f.from.packed

  level : Bool
  level = eqb e.from.packed f.from.packed && ltb e.to.packed f.to.packed

  pub before_says : edge_before e f ≡ true → Before e f
  unfolding lower level
  before_says t =
      ⊎_elim
      (λ p. record { first = omega (arith, tests); second = λ q. absurd (omega (arith, tests)) })
      (λ p.
      let h = and_true_l (eqb e.from.packed f.from.packed) (ltb e.to.packed f.to.packed) p in
      let k = and_true_r (eqb e.from.packed f.from.packed) (ltb e.to.packed f.to.packed) p in
      record { first = omega (arith, tests); second = λ q. omega (arith, tests) })
      (or_cases lower level (sym (edge_before_lem e f) ∙ t))

  by_lower : (b : Bool) → lower ≡ b → Before e f → (lower || level) ≡ true
  unfolding lower level
  by_lower true g b = or_left lower level g
  by_lower false g b =
      let q : e.from.packed ≡ f.from.packed = omega (arith, tests, b.first) in
      or_right lower level (and_both _ _ (eq-eqb e.from.packed f.from.packed q) (lt-ltb e.to.packed f.to.packed (b.second q)))

  pub says_before : Before e f → edge_before e f ≡ true
  unfolding lower level
  says_before b = edge_before_lem e f ∙ by_lower lower refl b

-- it is a total order: no link stands before itself, the order is passed on, and one of two different links stands first
pub before_irrefl : (e : Edge) → edge_before e e ≡ true → ⊥
before_irrefl e t = omega (arith, (before_says e e t).second refl)

pub before_trans : (e f g : Edge) → edge_before e f ≡ true → edge_before f g ≡ true → edge_before e g ≡ true
before_trans e f g s t =
    let p = before_says e f s in
    let q = before_says f g t in
    says_before e g (record {
      first = omega (arith, p.first, q.first);
      second = λ h.
          let i : e.from.packed ≡ f.from.packed = omega (arith, p.first, q.first) in
          let j : f.from.packed ≡ g.from.packed = omega arith in
          omega (arith, p.second i, q.second j);
    })

-- of two that differ in a number, one is lower there
apart : (a b : ℕ) (t s : Bool) → eqb a b ≡ t → ltb a b ≡ s → (a ≡ b) ⊎ ((a < b) ⊎ (b < a))
apart a b true s e f = inl (eqb-true a b e)
apart a b false true e f = inr (inl (ltb-true a b f))
apart a b false false e f = inr (inr (omega (arith, tests)))

order : (a b : ℕ) → (a ≡ b) ⊎ ((a < b) ⊎ (b < a))
order a b = apart a b (eqb a b) (ltb a b) refl refl

pub before-total : (e f : Edge) → edge_before e f ≡ false → edge_before f e ≡ false → e ≡ f
before-total e f s t =
    let no : Before e f → e ≡ f = λ b. never (sym (says_before e f b) ∙ s) in
    let on : Before f e → e ≡ f = λ b. never (sym (says_before f e b) ∙ t) in
    ⊎_elim
    (λ p.
    ⊎_elim
    (λ q. same_ends_lem e f (and_both _ _ (eq-eqb e.from.packed f.from.packed p) (eq-eqb e.to.packed f.to.packed q)))
    (⊎_elim
    (λ q. no (record { first = omega arith; second = λ x. q }))
    (λ q. on (record { first = omega arith; second = λ x. q })))
    (order e.to.packed f.to.packed))
    (⊎_elim
    (λ p. no (record { first = omega arith; second = λ x. absurd (omega arith) }))
    (λ p. on (record { first = omega arith; second = λ x. absurd (omega arith) })))
    (order e.from.packed f.from.packed)

-- the derived order is the order of written links
derived_order : (x y z w : Bool) → is_some_and is_lt (partial_ordering_then (Some (cond x Less (cond y Equal Greater))) (Some (cond z Less (cond w Equal Greater)))) ≡ (x || (y && z))
derived_order true y z w = refl
derived_order false true true w = refl
derived_order false true false true = refl
derived_order false true false false = refl
derived_order false false z w = refl

pub lt_before : (e f : Edge) → partial_lt (edge_order.partial_cmp-value).it e f ≡ edge_before e f
unfolding edge_before
lt_before e f =
    let t = eqb e.from.packed f.from.packed in
    derived_order (ltb e.from.packed f.from.packed) t (ltb e.to.packed f.to.packed) (eqb e.to.packed f.to.packed)
    ∙ sym (ap₂ (λ (x y : Bool). x || (t && y)) (before_packed e.from f.from) (before_packed e.to f.to))
