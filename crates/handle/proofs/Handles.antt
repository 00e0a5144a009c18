-- The laws of oriented nodes.
use Prim.Native.Nat.{ℕ, ◌+◌, ◌-◌, ◌*◌, ◌/◌, ◌%◌, ◌≤◌}
use mathlib.Core.Path.{◌≡◌, refl, sym, ap, ◌∙◌}
use mathlib.Core.Bool.{Bool, true, false, cond, ◌&&◌, ◌||◌}
use native.Mathlib.Omega.{arith}
use borrow.Author.Tests.{lt-ltb, le-ltb}
use lib.Dec.{eqb, ltb}
use Rattle.kit.proofs.Bools.{tests}
use Rattle.std.specs.Ordering.{is_lt, nat_cmp}
use Rattle.std.specs.declared.cmp.Ordering.TheVariants.{Less, Equal, Greater}
use Rattle.handle.specs.declared.Handle.{Handle}
use Rattle.handle.specs.Handle.{pack, id_of, dir_of, flip, is_id, is_handle, same_handle, before}

-- an oriented node is its packed number
pub handle_eq : (u v : Handle) → u.packed ≡ v.packed → u ≡ v
handle_eq u v e = ap {B = Handle} (λ (n : ℕ). record { packed = n }) e

pub same_handle_lem : (u v : Handle) → same_handle u v ≡ true → u ≡ v
same_handle_lem u v e = handle_eq u v (omega (arith, tests))

-- packing and unpacking are inverse
pub id-pack : (i d : ℕ) → d ≤ 1 → id_of (pack i d) ≡ i
id-pack i d h = omega arith

pub dir_pack : (i d : ℕ) → d ≤ 1 → dir_of (pack i d) ≡ d
dir_pack i d h = omega arith

pub pack_unpack : (h : Handle) → pack (id_of h) (dir_of h) ≡ h
pack_unpack h = handle_eq _ h (omega arith)

pub dir_small : (h : Handle) → dir_of h ≤ 1
dir_small h = omega arith

-- the same id, the other direction, and back
pub id-flip : (h : Handle) → id_of (flip h) ≡ id_of h
unfolding flip
id-flip h = omega arith

pub dir_flip : (h : Handle) → dir_of (flip h) ≡ 1 - dir_of h
unfolding flip
dir_flip h = omega arith

pub flip-flip : (h : Handle) → flip (flip h) ≡ h
unfolding flip
flip-flip h = handle_eq _ h (omega arith)

pub flip-forward : (i : ℕ) → flip (pack i 0) ≡ pack i 1
unfolding flip
flip-forward i = handle_eq _ _ (omega arith)

pub flip-reverse : (i : ℕ) → flip (pack i 1) ≡ pack i 0
unfolding flip
flip-reverse i = handle_eq _ _ (omega arith)

pub flip-other : (h : Handle) → flip h ≡ h → ⊥
unfolding flip
flip-other h e = let q : (flip h).packed ≡ h.packed = ap (λ (x : Handle). x.packed) e in omega arith

pub flip_inj : (u v : Handle) → flip u ≡ flip v → u ≡ v
flip_inj u v e = sym (flip-flip u) ∙ ap flip e ∙ flip-flip v

-- of one id there are an oriented node and its flip
pub same_id_lem : (u v : Handle) → id_of u ≡ id_of v → dir_of u ≡ dir_of v → u ≡ v
same_id_lem u v e f = handle_eq u v (omega arith)

pub other_dir : (u v : Handle) → id_of u ≡ id_of v → (dir_of u ≡ dir_of v → ⊥) → u ≡ flip v
unfolding flip
other_dir u v e f = handle_eq u (flip v) (omega (arith, f))

pub is_handle-flip : (h : Handle) → is_handle (flip h) ≡ is_handle h
is_handle-flip h = ap is_id (id-flip h)

pub flip_packed : (h : Handle) → (flip h).packed ≡ h.packed / 2 * 2 + (1 - h.packed % 2)
unfolding flip
flip_packed h = refl

-- rising id, forward before reverse, is the order of packed numbers
by_id : (u v : Handle) (lower same : Bool) → ltb (id_of u) (id_of v) ≡ lower → eqb (id_of u) (id_of v) ≡ same → (lower || (same && ltb (dir_of u) (dir_of v))) ≡ ltb u.packed v.packed
by_id u v true same e f = sym (lt-ltb u.packed v.packed (omega (arith, tests)))
by_id u v false false e f = sym (le-ltb u.packed v.packed (omega (arith, tests)))
by_id u v false true e f = by_dir (ltb (dir_of u) (dir_of v)) refl
  where
    by_dir : (b : Bool) → ltb (dir_of u) (dir_of v) ≡ b → ltb (dir_of u) (dir_of v) ≡ ltb u.packed v.packed
    by_dir true g = g ∙ sym (lt-ltb u.packed v.packed (omega (arith, tests)))
    by_dir false g = g ∙ sym (le-ltb u.packed v.packed (omega (arith, tests)))

pub before_packed : (u v : Handle) → before u v ≡ ltb u.packed v.packed
unfolding before
before_packed u v = by_id u v (ltb (id_of u) (id_of v)) (eqb (id_of u) (id_of v)) refl refl

-- the derived order of two numbers
pub derived_lt : (a b : ℕ) → is_lt (nat_cmp a b) ≡ ltb a b
derived_lt a b = by (ltb a b) (eqb a b)
  where
    by : (x y : Bool) → is_lt (cond x Less (cond y Equal Greater)) ≡ x
    by true y = refl
    by false true = refl
    by false false = refl
