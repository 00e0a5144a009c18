-- The protected list's lines, one after another.
use Prim.Native.Nat.{ℕ, ◌+◌, ◌-◌, ◌≤◌}
use mathlib.Core.Path.{◌≡◌, sym, ap, ◌∙◌}
use mathlib.Core.List.{List, [], ◌∷◌, ◌++◌}
use native.Mathlib.Omega.{arith}
use borrow.Author.Tests.{ne_eqb}
use lib.ListN.{length, take, drop, length-append, length-drop}
use lib.Seq.{sets, length-sets, length-take-le}
use Rattle.kit.specs.Put.{Put}
use Rattle.kit.proofs.Writes.{put-left}
use Rattle.text.specs.Names.{name_id}
use Rattle.text.specs.Search.{Piece}
use Rattle.request.specs.Ids.{said, ids_of}

said-one : (line : List ℕ) → (length line ≡ 0 → ⊥) → said line ≡ name_id line ∷ []
said-one line h = rw (ne_eqb (length line) 0 h)

said_short : (line : List ℕ) → length (said line) ≤ length line
said_short [] = omega arith
said_short (b ∷ bs) = omega (arith, ap length (said-one (b ∷ bs) (λ e. omega arith)))

-- a line says no more ids than it has bytes
pub said-within : {bs : List ℕ} {from r : ℕ} → Piece 10 bs from r → length (said (take (r - from) (drop from bs))) ≤ r - from
said-within {bs} {from} {r} p =
    let n : length (take (r - from) (drop from bs)) ≡ r - from = length-take-le (r - from) (drop from bs) (simp length-drop (omega (arith, p.high))) in
    omega (arith, said_short (take (r - from) (drop from bs)))

-- the first i ids are there, and those that the lines say are left
pub record Listing (all ids₀ ids : List ℕ) (ls : List (List ℕ)) (i : ℕ) : Type 0 where
  pub same : length ids ≡ length ids₀
  pub total : i + length (ids_of ls) ≡ length all
  pub left : sets ids i (ids_of ls) ≡ sets ids₀ 0 all

module _ {ls rest : List (List ℕ)} {l : List ℕ} (e : ls ≡ l ∷ rest) where
  said_more : ids_of ls ≡ said l ++ ids_of rest
  said_more = ap ids_of e

  pub said-length : length (ids_of ls) ≡ length (said l) + length (ids_of rest)
  said-length = ap length said_more ∙ length-append (said l) (ids_of rest)

  pub listing_next : {all ids₀ ids m : List ℕ} {i r : ℕ} → Listing all ids₀ ids ls i → Put ids i (said l) m r → Listing all ids₀ m rest r
  listing_next {all} {ids₀} {ids} {m} {i} {r} p q =
      record {
        same = ap length q.bytes ∙ length-sets ids i (said l) ∙ p.same;
        total = omega (arith, p.total, q.place, said-length);
        left = put-left (ids_of rest) q ∙ sym (ap (sets ids i) said_more) ∙ p.left;
      }
