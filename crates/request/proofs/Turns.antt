-- The program's words, one after another: where a word ends, and a turn of the loops over them.
use Prim.Native.Nat.{ℕ, ◌+◌, ◌-◌, ◌≤◌}
use mathlib.Core.Path.{◌≡◌, refl, ap, ◌∙◌}
use mathlib.Core.Bool.{true, false, cond}
use mathlib.Core.List.{List, [], ◌∷◌}
use native.Mathlib.Omega.{arith}
use borrow.Author.Tests.{leb-true}
use lib.ListN.{length, take, drop}
use Rattle.text.specs.Pieces.{pieces}
use Rattle.text.specs.Search.{Piece}
use Rattle.text.proofs.Cuts.{enough, piece_last, piece_more}
use Rattle.std.specs.Prelude.{Option}
use Rattle.request.specs.declared.ask.Role.{Role}
use Rattle.request.specs.Words.{front, words_of, role_of, wanted_after, same_role, first_word, count_words}

front-more : (p : List ℕ) (ps : List (List ℕ)) → 1 ≤ length ps → front (p ∷ ps) ≡ p ∷ front ps
front-more p [] h = absurd (omega arith)
front-more p (q ∷ ps) h = refl

module _ {bs : List ℕ} {from r : ℕ} (p : Piece 0 bs from r) where
  pub no_word : r ≡ length bs → words_of (drop from bs) ≡ []
  no_word e = ap front (piece_last p e)

  pub next_word : (r ≡ length bs → ⊥) → words_of (drop from bs) ≡ take (r - from) (drop from bs) ∷ words_of (drop (r + 1) bs)
  next_word e =
      let ps : List (List ℕ) = pieces 0 (drop (r + 1) bs) in
      ap front (piece_more p e)
      ∙ front-more (take (r - from) (drop from bs)) ps (leb-true 1 (length ps) (enough 0 (drop (r + 1) bs) 1 (omega arith)))

-- m is what the search is to find
pub first_none : (role : Role) (wanted : Option Role) {m : List ℕ} {ws : List (List ℕ)} → ws ≡ [] → first_word role wanted ws ≡ m → [] ≡ m
first_none role wanted e i = rw e at i

module _ (role : Role) (wanted : Option Role) (this : Role) {w m : List ℕ} {ws rest : List (List ℕ)} where
  pub first-here : ws ≡ w ∷ rest → first_word role wanted ws ≡ m → this ≡ role_of wanted w → same_role this role ≡ true → w ≡ m
  first-here e i r s =
      let t : same_role (role_of wanted w) role ≡ true = rw r at s in
      rw (e, t) at i

  pub first-later : ws ≡ w ∷ rest → first_word role wanted ws ≡ m → this ≡ role_of wanted w → same_role this role ≡ false → (next : Option Role) → next ≡ wanted_after this → first_word role next rest ≡ m
  first-later e i r s next n =
      let t : same_role (role_of wanted w) role ≡ false = rw r at s in
      let j = rw (e, t) at i in
      ap (λ (k : Option Role). first_word role k rest) (n ∙ ap wanted_after r) ∙ j

module _ (role : Role) (wanted : Option Role) (this : Role) (n : ℕ) {w : List ℕ} {m : ℕ} {ws rest : List (List ℕ)} where
  pub count_next : ws ≡ w ∷ rest → n + count_words role wanted ws ≡ m → this ≡ role_of wanted w → (k : ℕ) → k ≡ cond (same_role this role) 1 0 → (next : Option Role) → next ≡ wanted_after this → (n + k) + count_words role next rest ≡ m
  count_next e i r k h next q =
      let j = rw e at i in
      let a : k ≡ cond (same_role (role_of wanted w) role) 1 0 = h ∙ ap (λ (x : Role). cond (same_role x role) 1 0) r in
      let b : count_words role next rest ≡ count_words role (wanted_after (role_of wanted w)) rest = ap (λ (x : Option Role). count_words role x rest) (q ∙ ap wanted_after r) in
      omega arith
