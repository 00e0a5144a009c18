-- What stands in the lists that the plain loops make.
use mathlib.Core.Path.{◌≡◌, refl, sym, ap, ◌∙◌, subst}
use mathlib.Core.Bool.{Bool, true, false, cond}
use mathlib.Core.List.Memᴰ
use mathlib.Core.List.{List, [], ◌∷◌, Memᴰ}
use mathlib.Core.Logic.{⊎_elim}
use Rattle.kit.specs.Loops.{keep, lines}

module _ {A : Type 0} where
  pub in_keep : (p : A → Bool) {a : A} {rs : List A} → Memᴰ a rs → p a ≡ true → Memᴰ a (keep p rs)
  in_keep p (Memᴰ.head {x} {xs} e) t = rw (ap p (sym e) ∙ t) (Memᴰ.head e)
  in_keep p {a} (Memᴰ.tail {x} {xs} m) t = by (p x) (in_keep p m t)
    where
      by : (b : Bool) → Memᴰ a (keep p xs) → Memᴰ a (cond b (x ∷ keep p xs) (keep p xs))
      by true k = Memᴰ.tail k
      by false k = k

  pub of_keep : (p : A → Bool) (rs : List A) {a : A} → Memᴰ a (keep p rs) → Memᴰ a rs × (p a ≡ true)
  of_keep p [] m = absurd (Memᴰ.not-nil m)
  of_keep p (x ∷ xs) {a} m = by (p x) refl m (of_keep p xs)
    where
      by : (b : Bool) → p x ≡ b → Memᴰ a (cond b (x ∷ keep p xs) (keep p xs)) → (Memᴰ a (keep p xs) → Memᴰ a xs × (p a ≡ true)) → Memᴰ a (x ∷ xs) × (p a ≡ true)
      by true t k go = ⊎_elim (λ (e : a ≡ x). (Memᴰ.head e, ap p e ∙ t)) (λ j. (Memᴰ.tail (go j).0, (go j).1)) (Memᴰ.cases_cons k)
      by false t k go = (Memᴰ.tail (go k).0, (go k).1)

  pub in_lines : {B : Type 0} (f : A → List B) {a : A} {b : B} {rs : List A} → Memᴰ a rs → Memᴰ b (f a) → Memᴰ b (lines f rs)
  in_lines {B} f {a} {b} (Memᴰ.head {x} {xs} e) k = Memᴰ.append_left (lines f xs) (subst (λ (y : A). Memᴰ b (f y)) e k)
  in_lines f (Memᴰ.tail {x} {xs} m) k = Memᴰ.append_right (f x) (in_lines f m k)

  pub of_lines : {B : Type 0} (f : A → List B) (rs : List A) {b : B} → Memᴰ b (lines f rs) → (a : A) × Memᴰ a rs × Memᴰ b (f a)
  of_lines f [] m = absurd (Memᴰ.not-nil m)
  of_lines f (x ∷ xs) m =
      ⊎_elim
      (λ k. (x, Memᴰ.head refl, k))
      (λ k. let r = of_lines f xs k in (r.0, Memᴰ.tail r.1, r.2))
      (Memᴰ.append_cases (f x) m)

  pub in_one : (t : Bool) {b x : A} → t ≡ true → b ≡ x → Memᴰ b (cond t (x ∷ []) [])
  in_one t s e = rw s (Memᴰ.head e)

  pub of_one : (t : Bool) {b x : A} → Memᴰ b (cond t (x ∷ []) []) → (t ≡ true) × (b ≡ x)
  of_one true m = (refl, Memᴰ.eq_of_singleton m)
  of_one false m = absurd (Memᴰ.not-nil m)
