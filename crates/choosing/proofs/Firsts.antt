-- The first group that must be collapsed, of groups that are looked at in parts.
use Prim.Native.Nat.{ℕ}
use mathlib.Core.Path.{◌≡◌, refl, sym, ap, ◌∙◌}
use mathlib.Core.Bool.{Bool, true, false, cond, ◌||◌}
use mathlib.Core.List.{List, [], ◌∷◌, ◌++◌}
use native.Mathlib.Omega.{arith}
use lib.ListN.{length}
use Rattle.kit.specs.Loops.{any, first_or}
use Rattle.kit.proofs.Bools.{never}
use Rattle.handle.specs.declared.Handle.{Handle}
use Rattle.store.specs.Graph.{Graph}
use Rattle.choosing.specs.Scan.{must_collapse}
use Rattle.choosing.specs.Search.{Front}
use Rattle.choosing.proofs.Trying.{must_says}
use Rattle.kit.proofs.Meaning.{first_some}

module _ {A : Type 0} (p : A → Bool) where
  -- none passes, or the first that does is one of them
  pub first_none : (d : A) (xs : List A) → any p xs ≡ false → first_or d p xs ≡ d
  first_none d [] f = refl
  first_none d (x ∷ xs) f = by (p x) f (first_none d xs)
    where
      by : (b : Bool) → (b || any p xs) ≡ false → (any p xs ≡ false → first_or d p xs ≡ d) → cond b x (first_or d p xs) ≡ d
      by true q go = never q
      by false q go = go q

  -- of one part and then the next
  first-append : (d : A) (xs ys : List A) → first_or d p (xs ++ ys) ≡ first_or (first_or d p ys) p xs
  first-append d [] ys = refl
  first-append d (x ∷ xs) ys = ap (cond (p x) x) (first-append d xs ys)

  first_any : (d e : A) (xs : List A) → any p xs ≡ true → first_or d p xs ≡ first_or e p xs
  first_any d e [] t = never (sym t)
  first_any d e (x ∷ xs) t = by (p x) t (first_any d e xs)
    where
      by : (b : Bool) → (b || any p xs) ≡ true → (any p xs ≡ true → first_or d p xs ≡ first_or e p xs) → cond b x (first_or d p xs) ≡ cond b x (first_or e p xs)
      by true q go = refl
      by false q go = go q

module _ (g : Graph) (protected : List ℕ) where
  abbrev must : List Handle → Bool
  must = must_collapse g protected

  -- the answer's size tells whether there is one
  pub none_must : (xs : List (List Handle)) → length (first_or [] must xs) ≡ 0 → any must xs ≡ false
  none_must xs z = by (any must xs) refl
    where
      by : (b : Bool) → any must xs ≡ b → b ≡ false
      by true t = absurd (omega (arith, (must_says g protected (first_or [] must xs) (first_some must [] xs t).1).two))
      by false f = refl

  pub some_must : (xs : List (List Handle)) → (length (first_or [] must xs) ≡ 0 → ⊥) → any must xs ≡ true
  some_must xs n = by (any must xs) refl
    where
      by : (b : Bool) → any must xs ≡ b → b ≡ true
      by true t = refl
      by false f = absurd (n (ap length (first_none must [] xs f)))

  -- a turn of a loop over groups, which looked at the first part of what is left
  module _ {gs : List (List Handle)} (xs rest : List (List Handle)) {whole : List Handle} {l : List ℕ} {n : ℕ} (cut : gs ≡ xs ++ rest) (i : first_or [] must gs ≡ whole) (f : Front (first_or [] must xs) l n) where
    pub turn_none : n ≡ 0 → first_or [] must rest ≡ whole
    turn_none z =
        sym (first_none must (first_or [] must rest) xs (none_must xs (sym f.size ∙ z))) ∙ sym (first-append must [] xs rest) ∙ sym (ap (first_or [] must) cut) ∙ i

    pub turn-found : (n ≡ 0 → ⊥) → Front whole l n
    turn-found k =
        let e : first_or [] must xs ≡ whole =
        first_any must [] (first_or [] must rest) xs (some_must xs (λ z. k (f.size ∙ z))) ∙ sym (first-append must [] xs rest) ∙ sym (ap (first_or [] must) cut) ∙ i
        in
        rw (sym e) f

  -- none is left
  pub turn_end : {gs : List (List Handle)} {whole : List Handle} {l : List ℕ} → gs ≡ [] → first_or [] must gs ≡ whole → Front whole l 0
  turn_end z i = rw (sym i, z) (record { size = refl; here = refl })
