-- 12 in the longer list: in order if it was, and no step of a new event has an old rule.
use Prim.Native.Nat.{ℕ, ◌+◌, ◌≤◌}
use mathlib.Core.Path.{◌≡◌, refl, sym, ap, ap₂, ◌∙◌}
use mathlib.Core.Bool.{Bool, true, not, ◌&&◌, and-true, and_assoc}
use mathlib.Core.List.{List, [], ◌∷◌, ◌++◌, append_assoc, append-nil, Memᴰ}
use mathlib.Core.Logic.{⊎_elim}
use native.Mathlib.Omega.{arith}
use borrow.Author.Tests.{not-true}
use lib.ListN.{length, take, drop, length-append, length-drop}
use lib.Seq.{take-append-le, drop-append-le, take-length, drop_at}
use Rattle.kit.specs.Loops.{all}
use Rattle.kit.proofs.Meaning.{all_mem}
use Rattle.handle.specs.Handle.{id_of}
use Rattle.events.specs.Events.{Rules, rule, walk_of, keyed, Event, append, append_all}
use Rattle.events.specs.declared.Rule.{Rule}
use Rattle.events.specs.declared.Step.{Step}
use Rattle.events.specs.WellFormed.{good_rule, steps_later, in_order_from, in_order}
use Rattle.events.proofs.Says.{rule_says}
use Rattle.longer.specs.Ahead.{steps_new}
use Rattle.longer.proofs.Keys.{all_same, any_last}

-- rules and then more rules
order_append : (met : List Rule) (steps : List Step) (rs ts : List Rule) → in_order_from met steps (rs ++ ts) ≡ (in_order_from met steps rs && in_order_from (met ++ rs) steps ts)
order_append met steps [] ts = rw (append-nil met)
order_append met steps (r ∷ rs) ts =
    ap (λ (b : Bool). steps_later (met ++ (r ∷ [])) (walk_of steps r) && b) (order_append (met ++ (r ∷ [])) steps rs ts)
    ∙ rw (append_assoc met (r ∷ []) rs) (sym (and_assoc (steps_later (met ++ (r ∷ [])) (walk_of steps r)) _ _))

-- the steps of a rule lie among the first n
abbrev pub Within : ℕ → List Rule → Type 0
Within n rs = (r : Rule) → Memᴰ r rs → r.first + r.steps ≤ n

-- steps appended change no old rule's walk
walk_kept : (steps more : List Step) (r : Rule) → r.first + r.steps ≤ length steps → walk_of (steps ++ more) r ≡ walk_of steps r
walk_kept steps more r h =
    let g : r.first ≤ length steps = omega arith in
    let k : r.steps ≤ length (drop r.first steps) = omega (arith, length-drop r.first steps) in
    ap (take r.steps) (drop-append-le r.first steps more g) ∙ take-append-le r.steps (drop r.first steps) more k

order_kept : (met : List Rule) (steps more : List Step) (rs : List Rule) → Within (length steps) rs → in_order_from met (steps ++ more) rs ≡ in_order_from met steps rs
order_kept met steps more [] h = refl
order_kept met steps more (r ∷ rs) h =
    ap₂ ◌&&◌ (ap (steps_later (met ++ (r ∷ []))) (walk_kept steps more r (h r (mathlib.Core.List.Memᴰ.head refl))))
    (order_kept (met ++ (r ∷ [])) steps more rs (λ s m. h s (mathlib.Core.List.Memᴰ.tail m)))

-- the new rule's walk is the event's
walk_new : (steps walk : List Step) (id len : ℕ) → walk_of (steps ++ walk) (rule id len (length steps) (length walk)) ≡ walk
walk_new steps walk id len = ap (take (length walk)) (drop_at steps walk (length steps) refl) ∙ take-length walk

-- a rule that is no step's own does not count
met_more : (met : List Rule) (r : Rule) (ss : List Step) → all (λ s. not (keyed (id_of s.node) s.len r)) ss ≡ true → steps_later (met ++ (r ∷ [])) ss ≡ steps_later met ss
met_more met r ss t =
    all_same _ _ ss (λ s m. ap not (any_last (id_of s.node) s.len met r (not-true _ (all_mem (λ (x : Step). not (keyed (id_of x.node) x.len r)) t m))))

-- no step of an event of the list has the key of an event of the list
abbrev pub key_of : Event → Rule
key_of e = rule e.id e.len 0 0

abbrev pub Apart : List Event → Type 0
Apart es = (e f : Event) → Memᴰ e es → Memᴰ f es → all (λ s. not (keyed (id_of s.node) s.len (key_of f))) e.walk ≡ true

module _ (t : Rules) (e : Event) (inside : Within (length t.steps) t.rules) where
  abbrev new : Rule
  new = rule e.id e.len (length t.steps) (length e.walk)

  within_more : Within (length (append t e).steps) (append t e).rules
  within_more r m =
      ⊎_elim
      (λ k. omega (arith, inside r k, length-append t.steps e.walk))
      (λ k. let q : r ≡ new = mathlib.Core.List.Memᴰ.eq_of_singleton k in rw q (omega (arith, length-append t.steps e.walk)))
      (mathlib.Core.List.Memᴰ.append_cases t.rules m)

  one_order : all (λ s. not (keyed (id_of s.node) s.len (key_of e))) e.walk ≡ true → in_order (append t e) ≡ (in_order t && steps_later t.rules e.walk)
  one_order own =
      order_append [] (t.steps ++ e.walk) t.rules (new ∷ [])
      ∙ ap₂ ◌&&◌ (order_kept [] t.steps e.walk t.rules inside)
      (and-true _ ∙ ap (steps_later (t.rules ++ (new ∷ []))) (walk_new t.steps e.walk e.id e.len) ∙ met_more t.rules new e.walk own)

pub order_more : (t : Rules) (es : List Event) → Within (length t.steps) t.rules → Apart es → in_order (append_all t es) ≡ (in_order t && steps_new t.rules es)
order_more t [] inside apart = sym (and-true (in_order t))
order_more t (e ∷ es) inside apart =
    let here : Memᴰ e (e ∷ es) = mathlib.Core.List.Memᴰ.head refl in
    order_more (append t e) es (within_more t e inside) (λ a b m n. apart a b (mathlib.Core.List.Memᴰ.tail m) (mathlib.Core.List.Memᴰ.tail n))
    ∙ ap₂ ◌&&◌ (one_order t e inside (apart e e here here))
    (all_same _ _ es (λ f m. met_more t.rules _ f.walk (apart f e (mathlib.Core.List.Memᴰ.tail m) here)))
    ∙ and_assoc (in_order t) (steps_later t.rules e.walk) (steps_new t.rules es)

pub order_longer : (t : Rules) (es : List Event) → all (good_rule (length t.steps)) t.rules ≡ true → Apart es → in_order (append_all t es) ≡ (in_order t && steps_new t.rules es)
order_longer t es good apart =
    order_more t es (λ r m. (rule_says (length t.steps) r (all_mem (good_rule (length t.steps)) good m)).inside) apart
