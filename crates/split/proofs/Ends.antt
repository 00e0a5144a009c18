-- The laws of a link's ends as they move from v's right to f's.
use Prim.Native.Nat.{ℕ}
use mathlib.Core.Path.{◌≡◌, refl, sym, ap, ap₂, ◌∙◌}
use mathlib.Core.Bool.{Bool, true, false, cond, ◌&&◌, and_comm}
use mathlib.Core.Logic.{◌⊎◌, inl, inr, ⊎_elim}
use native.Mathlib.Omega.{arith}
use borrow.Author.Tests.{eq-eqb}
use Rattle.kit.proofs.Bools.{tests, never, same_test, or_cases, not_true_false}
use Rattle.handle.specs.declared.Handle.{Handle}
use Rattle.handle.specs.declared.Edge.{Edge}
use Rattle.handle.specs.Handle.{id_of, flip, same_handle}
use Rattle.handle.specs.Edge.{edge, turned, written, same_ends, same_link}
use Rattle.handle.proofs.Handles.{flip-flip, id-flip, flip_packed, same_handle_lem}
use Rattle.handle.proofs.Edges.{same_ends_lem, written_either, written_same, link_of}
use Rattle.split.specs.Split.{move_ends}

-- one end
abbrev moved : Handle → Handle → Handle → Handle
moved v f h = cond (same_handle h v) f h

same-flip : (u v : Handle) → same_handle (flip u) v ≡ same_handle u (flip v)
same-flip u v =
    same_test _ _
    (λ t. eq-eqb u.packed (flip v).packed (omega (arith, tests, flip_packed u, flip_packed v)))
    (λ t. eq-eqb (flip u).packed v.packed (omega (arith, tests, flip_packed u, flip_packed v)))

moved-flip : (v f h : Handle) → moved v f (flip h) ≡ flip (moved (flip v) (flip f) h)
moved-flip v f h =
    ap (λ (b : Bool). cond b f (flip h)) (same-flip h v)
    ∙ elim (same_handle h (flip v)) as (λ b. cond b f (flip h) ≡ flip (cond b (flip f) h)) [ true ↦ sym (flip-flip f) | false ↦ refl ]

-- the other form of a link moves as the link does
pub moves_turned : (v f : Handle) (e : Edge) → move_ends v f (turned e) ≡ turned (move_ends v f e)
moves_turned v f e = ap₂ edge (moved-flip v f e.to) (moved-flip (flip v) (flip f) e.from ∙ simp flip-flip)

-- an end that is not f's keeps apart from f's
moved_inj : (v f x y : Handle) → (x ≡ f → ⊥) → (y ≡ f → ⊥) → moved v f x ≡ moved v f y → x ≡ y
moved_inj v f x y n m = by (same_handle x v) (same_handle y v) refl refl
  where
    by : (s t : Bool) → same_handle x v ≡ s → same_handle y v ≡ t → cond s f x ≡ cond t f y → x ≡ y
    by true true p q e = same_handle_lem x v p ∙ sym (same_handle_lem y v q)
    by true false p q e = absurd (m (sym e))
    by false true p q e = absurd (n e)
    by false false p q e = e

-- neither end is on f's node
pub record Away (f : Handle) (e : Edge) : Type 0 where
  pub first : id_of e.from ≡ id_of f → ⊥
  pub second : id_of e.to ≡ id_of f → ⊥

away_turned : {f : Handle} {e : Edge} → Away f e → Away f (turned e)
away_turned {f} {e} a =
    record { first = λ q. a.second (sym (id-flip e.to) ∙ q); second = λ q. a.first (sym (id-flip e.from) ∙ q) }

pub moves_inj : (v f : Handle) (e e' : Edge) → Away f e → Away f e' → move_ends v f e ≡ move_ends v f e' → e ≡ e'
moves_inj v f e e' a b q =
    ap₂ edge
    (moved_inj v f e.from e'.from (λ p. a.first (ap id_of p)) (λ p. b.first (ap id_of p)) (ap (λ (x : Edge). x.from) q))
    (moved_inj (flip v) (flip f) e.to e'.to (λ p. a.second (ap id_of p ∙ id-flip f)) (λ p. b.second (ap id_of p ∙ id-flip f)) (ap (λ (x : Edge). x.to) q))

-- the same link, in either form
forms : (e e' : Edge) → same_link e e' ≡ true → (e ≡ e') ⊎ (turned e ≡ e')
forms e e' t = ⊎_elim (λ p. inl (same_ends_lem e e' p)) (λ p. inr (same_ends_lem (turned e) e' p)) (or_cases (same_ends e e') (same_ends (turned e) e') t)

-- two links are the same after the move exactly when they were
pub moves_same : (v f : Handle) (e e' : Edge) → Away f e → Away f e' → same_link (move_ends v f e) (move_ends v f e') ≡ same_link e e'
moves_same v f e e' a b =
    same_test _ _
    (λ t. link_of e e'
    (⊎_elim
    (λ p. inl (moves_inj v f e e' a b p))
    (λ p. inr (moves_inj v f (turned e) e' (away_turned a) b (moves_turned v f e ∙ p)))
    (forms (move_ends v f e) (move_ends v f e') t)))
    (λ t. link_of (move_ends v f e) (move_ends v f e')
    (⊎_elim
    (λ p. inl (ap (move_ends v f) p))
    (λ p. inr (sym (moves_turned v f e) ∙ ap (move_ends v f) p))
    (forms e e' t)))

-- no link starts at v once it has moved, so none is v to f
not-v : (v f h : Handle) → (f ≡ v → ⊥) → moved v f h ≡ v → ⊥
not-v v f h n = by (same_handle h v) refl
  where
    by : (b : Bool) → same_handle h v ≡ b → cond b f h ≡ v → ⊥
    by true p e = n e
    by false p e = never (sym (eq-eqb h.packed v.packed (ap (λ (x : Handle). x.packed) e)) ∙ p)

pub moves_new : (v f : Handle) (e : Edge) → (f ≡ v → ⊥) → same_link (move_ends v f e) (edge v f) ≡ false
moves_new v f e n =
    not_true_false _ (λ t.
    ⊎_elim
    (λ p. not-v v f e.from n (ap (λ (x : Edge). x.from) p))
    (λ p. not-v v f (turned e).from n (ap (λ (x : Edge). x.from) (moves_turned v f e ∙ p)))
    (forms (move_ends v f e) (edge v f) t))

-- a test of the ids of both ends
abbrev pub both_ends : (ℕ → Bool) → Edge → Bool
both_ends p e = p (id_of e.from) && p (id_of e.to)

both-turned : (p : ℕ → Bool) (e : Edge) → both_ends p (turned e) ≡ both_ends p e
both-turned p e = simp id-flip (and_comm (p (id_of e.to)) (p (id_of e.from)))

pub both-written : (p : ℕ → Bool) (e : Edge) → both_ends p (written e) ≡ both_ends p e
both-written p e = ⊎_elim (λ q. ap (both_ends p) q) (λ q. ap (both_ends p) q ∙ both-turned p e) (written_either e)

pub both-same : (p : ℕ → Bool) (e e' : Edge) → same_link e e' ≡ true → both_ends p e ≡ both_ends p e'
both-same p e e' t = sym (both-written p e) ∙ ap (both_ends p) (written_same e e' t) ∙ both-written p e'

-- a test q that passes on f's node where p does on v's, and agrees with p on all others
module _ (p q : ℕ → Bool) (v f : Handle) (here : q (id_of f) ≡ p (id_of v)) (old : (j : ℕ) → (j ≡ id_of f → ⊥) → q j ≡ p j) where
  moved-test : (v' f' h : Handle) → id_of v' ≡ id_of v → id_of f' ≡ id_of f → (id_of h ≡ id_of f → ⊥) → q (id_of (moved v' f' h)) ≡ p (id_of h)
  moved-test v' f' h i j n = by (same_handle h v') refl
    where
      by : (b : Bool) → same_handle h v' ≡ b → q (id_of (cond b f' h)) ≡ p (id_of h)
      by true e = ap q j ∙ here ∙ ap p (sym i ∙ ap id_of (sym (same_handle_lem h v' e)))
      by false e = old (id_of h) n

  pub both-moved : (e : Edge) → Away f e → both_ends q (move_ends v f e) ≡ both_ends p e
  both-moved e a =
      ap₂ ◌&&◌ (moved-test v f e.from refl refl a.first) (moved-test (flip v) (flip f) e.to (id-flip v) (id-flip f) a.second)
