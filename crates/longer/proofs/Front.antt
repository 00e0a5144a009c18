-- An array whose front holds records: what is read back, and what a later store leaves of an earlier one.
use Prim.Native.Nat.{ℕ, suc, ◌+◌, ◌*◌, ◌≤◌}
use mathlib.Core.Path.{◌≡◌, refl, ap, ◌∙◌}
use mathlib.Core.List.{List, [], ◌∷◌, ◌++◌, append_assoc}
use native.Mathlib.Omega.{arith}
use lib.ListN.{length, drop, length-append}
use lib.Seq.{sets}
use Rattle.kit.specs.Layout.{Layout, decode, encode}
use Rattle.kit.proofs.Laws.{length-decode, encode-decode, push, then-decode, then-drop, then-length}
use Rattle.longer.specs.Longer.{front}

module _ {A : Type 0} (L : Layout A) where
  pub decode-front : (n : ℕ) (rs : List A) (l : List ℕ) → length rs ≡ n → decode L n (front L rs l) ≡ rs
  decode-front n rs l e = then-decode L n rs (drop (L.stride * length rs) l) e

  pub length_front : (rs : List A) (l : List ℕ) → L.stride * length rs ≤ length l → length (front L rs l) ≡ length l
  length_front rs l h = then-length L (length rs) rs l refl h

  -- the longer front is what stays
  pub front-front : (rs ts : List A) (l : List ℕ) → length rs ≤ length ts → front L ts (front L rs l) ≡ front L ts l
  front-front rs ts l h = ap (λ (x : List ℕ). encode L ts ++ x) (then-drop L (length rs) (length ts) rs l refl h)

  pub front_same : (n : ℕ) (l : List ℕ) → L.stride * n ≤ length l → front L (decode L n l) l ≡ l
  front_same n l h = rw (length-decode L n l) (encode-decode L n l h)

  length_more : (n : ℕ) (l : List ℕ) (rs : List A) → length (decode L n l ++ rs) ≡ n + length rs
  length_more n l rs = omega (arith, length-append (decode L n l) rs, length-decode L n l)

  -- one record stored after the first n
  pub push_front : (n : ℕ) (l : List ℕ) (a : A) → L.stride * (n + 1) ≤ length l → sets l (L.stride * n) (L.pack a) ≡ front L (decode L n l ++ (a ∷ [])) l
  push_front n l a h =
      let e : suc n ≡ length (decode L n l ++ (a ∷ [])) = omega (arith, length_more n l (a ∷ [])) in
      push L n l a (omega arith) ∙ ap (λ (k : ℕ). encode L (decode L n l ++ (a ∷ [])) ++ drop (L.stride * k) l) e

  -- some, and then more
  pub front-then : (n : ℕ) (l : List ℕ) (rs ts : List A) {m k : List ℕ} → m ≡ front L (decode L n l ++ rs) l → k ≡ front L (decode L (n + length rs) m ++ ts) m → k ≡ front L (decode L n l ++ (rs ++ ts)) l
  front-then n l rs ts {m} {k} e f =
      let d : decode L (n + length rs) m ≡ decode L n l ++ rs = ap (decode L (n + length rs)) e ∙ decode-front (n + length rs) (decode L n l ++ rs) l (length_more n l rs) in
      f ∙ rw (d, append_assoc (decode L n l) rs ts, e)
      (front-front (decode L n l ++ rs) (decode L n l ++ (rs ++ ts)) l (omega (arith, length_more n l rs, length_more n l (rs ++ ts), length-append rs ts)))
