-- 5 in the longer list: no key stands twice if none did and the new ones are new.
use Prim.Native.Nat.{ℕ}
use mathlib.Core.Path.{◌≡◌, refl, sym, ap, ap₂, ◌∙◌}
use mathlib.Core.Bool.{Bool, true, false, not, ◌&&◌, ◌||◌, and-true, and_assoc, or-false}
use mathlib.Core.List.{List, [], ◌∷◌, ◌++◌, Memᴰ}
use lib.Dec.{eqb}
use lib.ListN.{length}
use Rattle.kit.specs.Loops.{all, any, distinct}
use Rattle.kit.proofs.Bools.{eqb_sym}
use Rattle.kit.proofs.Meaning.{any_append, none_mem, distinct-first, distinct-rest}
use Rattle.kit.proofs.Lists.{any_same}
use Rattle.events.specs.Events.{Rules, rule, keyed, Event, append, append_all}
use Rattle.events.specs.declared.Rule.{Rule}
use Rattle.events.specs.WellFormed.{keys_once}
use Rattle.longer.specs.Ahead.{keys_new}

-- two tests that agree on every element
pub all_same : {A : Type 0} (p q : A → Bool) (rs : List A) → ((a : A) → Memᴰ a rs → p a ≡ q a) → all p rs ≡ all q rs
all_same p q [] h = refl
all_same p q (a ∷ rs) h = ap₂ ◌&&◌ (h a (Memᴰ.head refl)) (all_same p q rs (λ b m. h b (Memᴰ.tail m)))

-- one element more, that is the same as none or as some
one_more : (a b c d : Bool) → (not (a || (b || false)) && (d && not c)) ≡ ((not a && d) && not (b || c))
one_more true b c d = refl
one_more false true c true = refl
one_more false true c false = refl
one_more false false c d = refl

distinct-last : {A : Type 0} (same : A → A → Bool) (rs : List A) (x : A) → distinct same (rs ++ (x ∷ [])) ≡ (distinct same rs && not (any (λ a. same a x) rs))
distinct-last same [] x = refl
distinct-last same (a ∷ rs) x =
    ap₂ ◌&&◌ (ap not (any_append (same a) rs (x ∷ []))) (distinct-last same rs x)
    ∙ one_more (any (same a) rs) (same a x) (any (λ b. same b x) rs) (distinct same rs)

-- a key that is not the last rule's is looked for among the others
pub any_last : (id len : ℕ) (rs : List Rule) (r : Rule) → keyed id len r ≡ false → any (keyed id len) (rs ++ (r ∷ [])) ≡ any (keyed id len) rs
any_last id len rs r e = any_append (keyed id len) rs (r ∷ []) ∙ rw e (or-false (any (keyed id len) rs))

module _ (t : Rules) (e : Event) where
  one_key : keys_once (append t e).rules ≡ (keys_once t.rules && not (any (keyed e.id e.len) t.rules))
  one_key =
      distinct-last (λ (r s : Rule). keyed r.id r.len s) t.rules (rule e.id e.len (length t.steps) (length e.walk))
      ∙ ap (λ (b : Bool). keys_once t.rules && not b) (any_same _ (keyed e.id e.len) t.rules (λ r m. ap₂ ◌&&◌ (eqb_sym e.id r.id) (eqb_sym e.len r.len)))

  other_keys : (es : List Event) → any (λ f. eqb e.id f.id) es ≡ false → keys_new (append t e).rules es ≡ keys_new t.rules es
  other_keys es d =
      all_same _ _ es (λ f m. ap not (any_last f.id f.len t.rules _ (ap (λ (b : Bool). b && eqb e.len f.len) (none_mem (λ (g : Event). eqb e.id g.id) d m))))

pub keys_longer : (t : Rules) (es : List Event) → distinct (λ e f. eqb e.id f.id) es ≡ true → keys_once (append_all t es).rules ≡ (keys_once t.rules && keys_new t.rules es)
keys_longer t [] d = sym (and-true (keys_once t.rules))
keys_longer t (e ∷ es) d =
    let same : Event → Event → Bool = λ a b. eqb a.id b.id in
    keys_longer (append t e) es (distinct-rest same e es d)
    ∙ ap₂ ◌&&◌ (one_key t e) (other_keys t e es (distinct-first same e es d))
    ∙ and_assoc (keys_once t.rules) (not (any (keyed e.id e.len) t.rules)) (keys_new t.rules es)
