-- Steps that make links in one array, one after another: the next one starts from what the last one left.
use Prim.Native.Nat.{ℕ, ◌*◌, ◌≤◌, ◌<◌}
use mathlib.Core.Path.{◌≡◌, refl, sym, ap, ◌∙◌, subst}
use mathlib.Core.Bool.{Bool, true, false, cond}
use mathlib.Core.List.{List, ◌++◌}
use native.Mathlib.Omega.{arith}
use borrow.Author.Tests.{le-leb, lt-leb, leb-true, leb-false}
use lib.Dec.{leb}
use lib.ListN.{length, drop}
use Rattle.kit.specs.Layout.{encode}
use Rattle.kit.proofs.Laws.{length-decode, encode-decode, then-decode, then-drop, then-length}
use Rattle.store.specs.Graph.{link_layout, links_of}
use Rattle.store.specs.declared.Link.{Link}
use Rattle.std.specs.Prelude.{Option, Some, None}
use Rattle.linking.specs.Fit.{fitted, Makes}

-- m holds these n links, and after them what l has there
pub record Holds (l : List ℕ) (rs : List Link) (n : ℕ) (m : List ℕ) : Type 0 where
  pub many : length rs ≡ n
  pub room : 3 * n ≤ length l
  pub is : m ≡ encode link_layout rs ++ drop (3 * n) l

module _ {l m : List ℕ} {rs : List Link} {n : ℕ} where
  pub holds_links : Holds l rs n m → links_of n m ≡ rs
  holds_links h = rw h.is (then-decode link_layout n rs (drop (3 * n) l) h.many)

  pub holds_size : Holds l rs n m → length m ≡ length l
  holds_size h = rw h.is (then-length link_layout n rs l h.many h.room)

  pub holds_rest : Holds l rs n m → (k : ℕ) → n ≤ k → drop (3 * k) m ≡ drop (3 * k) l
  holds_rest h k g = rw h.is (then-drop link_layout n k rs l h.many g)

  -- the answer of a step that fits, and of one that does not
  pub made : Holds l rs n m → Makes l rs (Some n) m
  made h =
      let q = h.many in
      let r = h.room in
      record {
        answer = sym (rw (h.many, le-leb (3 * n) (length l) h.room));
        stands = λ _. rw h.many h.is;
      }

pub full : {l m : List ℕ} (rs : List Link) → length l < 3 * length rs → Makes l rs None m
full {l} {m} rs h =
    record { answer = sym (rw (lt-leb (3 * length rs) (length l) h)); stands = λ g. absurd (omega arith) }

pub starts : (n : ℕ) (l : List ℕ) → 3 * n ≤ length l → Holds l (links_of n l) n l
starts n l h = record { many = length-decode link_layout n l; room = h; is = sym (encode-decode link_layout n l h) }

module _ (l : List ℕ) (rs : List Link) where
  pub counted : (n : ℕ) (b : Bool) → leb (3 * length rs) (length l) ≡ b → Some n ≡ cond b (Some (length rs)) None → (length rs ≡ n) × (3 * n ≤ length l)
  counted n true e q = let s : length rs ≡ n = cc in (s, omega (arith, leb-true (3 * length rs) (length l) e))
  counted n false e q = let z : ◌≡◌ {A = ℕ} 0 1 = cc in absurd (omega arith)

  pub filled : (b : Bool) → leb (3 * length rs) (length l) ≡ b → None ≡ cond b (Some (length rs)) None → length l < 3 * length rs
  filled true e q = let z : ◌≡◌ {A = ℕ} 0 1 = cc in absurd (omega arith)
  filled false e q = leb-false (3 * length rs) (length l) e

-- what a step's answer tells
pub made-count : {l m : List ℕ} {rs : List Link} {r : Option ℕ} (n : ℕ) → Makes l rs r m → r ≡ Some n → Holds l rs n m
made-count {l} {m} {rs} n s e =
    let c = counted l rs n (leb (3 * length rs) (length l)) refl (sym e ∙ s.answer) in
    record { many = c.0; room = c.1; is = rw (← c.0) (s.stands (omega arith)) }

pub made_full : {l m : List ℕ} {rs : List Link} {r : Option ℕ} → Makes l rs r m → r ≡ None → length l < 3 * length rs
made_full {l} {m} {rs} s e = filled l rs (leb (3 * length rs) (length l)) refl (sym e ∙ s.answer)

-- one step after another, where the second takes none away
module _ {l m k : List ℕ} {rs ts : List Link} {n : ℕ} where
  pub then_holds : Holds l rs n m → (i : ℕ) → n ≤ i → Holds m ts i k → Holds l ts i k
  then_holds h i g s =
      record {
        many = s.many;
        room = omega (arith, s.room, holds_size h);
        is = s.is ∙ ap (λ (x : List ℕ). encode link_layout ts ++ x) (holds_rest h i g);
      }

  pub then_makes : {r : Option ℕ} → Holds l rs n m → length rs ≤ length ts → Makes m ts r k → Makes l ts r k
  then_makes h g s =
      record {
        answer = s.answer ∙ ap (λ (x : ℕ). fitted x ts) (holds_size h);
        stands = λ q.
            s.stands (omega (arith, holds_size h))
            ∙ ap (λ (x : List ℕ). encode link_layout ts ++ x) (holds_rest h (length ts) (omega (arith, h.many)));
      }

  -- what does not fit now never does
  pub then_full : {us : List Link} {r : Option ℕ} {j : List ℕ} → Holds l rs n m → Makes m ts r k → r ≡ None → length ts ≤ length us → Makes l us None j
  then_full {us} h s e g = full us (omega (arith, made_full s e, holds_size h))

-- where the links made so far are read back from the array
pub then-own : {l m k : List ℕ} {ts : List Link} {n : ℕ} → Holds l (links_of n m) n m → (i : ℕ) → Holds m ts i k → length (links_of n m) ≤ length ts → Holds l (links_of i k) i k
then-own h i s g = rw (holds_links s) (then_holds h i (omega (arith, h.many, s.many)) s)

pub made_as : {l m : List ℕ} {rs ts : List Link} {n : ℕ} → Holds l rs n m → rs ≡ ts → Makes l ts (Some n) m
made_as {l} {m} {rs} {ts} {n} h e = subst (λ (us : List Link). Makes l us (Some n) m) e (made h)
