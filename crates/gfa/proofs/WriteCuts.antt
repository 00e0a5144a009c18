-- Words parted by a byte that stands in none of them: cutting gives the words back.
use Prim.Native.Nat.{ℕ, ◌<◌}
use mathlib.Core.Path.{◌≡◌, refl, ap, ◌∙◌}
use mathlib.Core.Bool.{true, false}
use mathlib.Core.List.{List, [], ◌∷◌, ◌++◌, map, Memᴰ, append_assoc}
use native.Mathlib.Omega.{arith}
use borrow.Author.Tests.{eq-eqb, ne_eqb, leb-true}
use lib.Dec.{eqb, leb}
use Rattle.kit.specs.Loops.{all, any, lines}
use Rattle.kit.proofs.Bools.{and_true_l, and_true_r, or_false_l, or_false_r, or_neither, eqb_sym}
use Rattle.kit.proofs.Meaning.{all_mem, none_of, any_append}
use Rattle.text.specs.Pieces.{pieces, lines_of, fields_of}
use Rattle.gfa.specs.Gfa1.{is_graphic}

module _ (sep : ℕ) where
  -- a piece, its separator, and what follows
  pub cut-first : (a b : List ℕ) → any (eqb sep) a ≡ false → pieces sep (a ++ (sep ∷ b)) ≡ a ∷ pieces sep b
  cut-first [] b h = rw (eq-eqb sep sep refl)
  cut-first (x ∷ a) b h =
      let e : eqb x sep ≡ false = eqb_sym x sep ∙ or_false_l (eqb sep x) (any (eqb sep) a) h in
      rw (e, cut-first a b (or_false_r (eqb sep x) (any (eqb sep) a) h))

  cut-last : (a : List ℕ) → any (eqb sep) a ≡ false → pieces sep a ≡ a ∷ []
  cut-last [] h = refl
  cut-last (x ∷ a) h =
      let e : eqb x sep ≡ false = eqb_sym x sep ∙ or_false_l (eqb sep x) (any (eqb sep) a) h in
      rw (e, cut-last a (or_false_r (eqb sep x) (any (eqb sep) a) h))

-- the lines of a text whose parts are lines
pub cut-lines : {A : Type 0} (f body : A → List ℕ) (rs : List A) (rest : List ℕ) → ((a : A) → f a ≡ body a ++ (10 ∷ [])) → ((a : A) → Memᴰ a rs → any (eqb 10) (body a) ≡ false) → lines_of (lines f rs ++ rest) ≡ map body rs ++ lines_of rest
cut-lines f body [] rest e h = refl
cut-lines f body (a ∷ rs) rest e h =
    let q : f a ++ lines f rs ++ rest ≡ body a ++ (10 ∷ (lines f rs ++ rest)) = rw (e a) (simp append_assoc) in
    ap lines_of q
    ∙ cut-first 10 (body a) (lines f rs ++ rest) (h a (Memᴰ.head refl))
    ∙ ap (λ (ls : List (List ℕ)). body a ∷ ls) (cut-lines f body rs rest e (λ b m. h b (Memᴰ.tail m)))

-- graphic words hold neither tab nor newline
graphic_free : (b : ℕ) → b < 33 → (w : List ℕ) → all is_graphic w ≡ true → any (eqb b) w ≡ false
graphic_free b h w t =
    none_of (eqb b) w (λ x m.
    let low = leb-true 33 x (and_true_l (leb 33 x) (leb x 126) (all_mem is_graphic t m)) in
    ne_eqb b x (λ e. omega arith))

-- words parted by tabs
abbrev pub tabbed : List (List ℕ) → List ℕ
tabbed [] = []
tabbed (w ∷ []) = w
tabbed (w ∷ v ∷ ws) = w ++ (9 ∷ tabbed (v ∷ ws))

module _ (w : List ℕ) (ws : List (List ℕ)) (t : all (all is_graphic) (w ∷ ws) ≡ true) where
  first_graphic : all is_graphic w ≡ true
  first_graphic = and_true_l (all is_graphic w) (all (all is_graphic) ws) t

  rest_graphic : all (all is_graphic) ws ≡ true
  rest_graphic = and_true_r (all is_graphic w) (all (all is_graphic) ws) t

pub cut-tabbed : (w : List ℕ) (ws : List (List ℕ)) → all (all is_graphic) (w ∷ ws) ≡ true → fields_of (tabbed (w ∷ ws)) ≡ w ∷ ws
cut-tabbed w [] t = cut-last 9 w (graphic_free 9 (omega arith) w (first_graphic w [] t))
cut-tabbed w (v ∷ ws) t =
    cut-first 9 w (tabbed (v ∷ ws)) (graphic_free 9 (omega arith) w (first_graphic w (v ∷ ws) t))
    ∙ ap (λ (fs : List (List ℕ)). w ∷ fs) (cut-tabbed v ws (rest_graphic w (v ∷ ws) t))

-- tabs aside, no byte below 33 stands in them
pub tabbed-free : (b : ℕ) → b < 33 → (b ≡ 9 → ⊥) → (ws : List (List ℕ)) → all (all is_graphic) ws ≡ true → any (eqb b) (tabbed ws) ≡ false
tabbed-free b h n [] t = refl
tabbed-free b h n (w ∷ []) t = graphic_free b h w (first_graphic w [] t)
tabbed-free b h n (w ∷ v ∷ ws) t =
    any_append (eqb b) w (9 ∷ tabbed (v ∷ ws))
    ∙ or_neither _ _ (graphic_free b h w (first_graphic w (v ∷ ws) t))
    (or_neither _ _ (ne_eqb b 9 n) (tabbed-free b h n (v ∷ ws) (rest_graphic w (v ∷ ws) t)))
