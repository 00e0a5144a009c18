-- What an expanded list is: 01 "Prefix, groups, collapse", last paragraph. It keeps keys and order, no step of it has a rule
-- left, expanding it again changes nothing, and it keeps lengths.
use Prim.Native.Nat.{ℕ, ◌+◌}
use mathlib.Core.Path.{◌≡◌, refl, sym, ap, ap₂, ◌∙◌}
use mathlib.Core.Bool.{Bool, true, false, cond, not, ◌&&◌, ◌||◌}
use mathlib.Core.List.{List, [], ◌∷◌, ◌++◌, map, append_assoc}
use native.Mathlib.Omega.{arith}
use borrow.Author.Tests.{eqb-true, eq-eqb}
use lib.Dec.{eqb}
use lib.ListN.{length, take, drop}
use Rattle.kit.specs.Loops.{all, any, sum, lines}
use Rattle.kit.proofs.Bools.{and_true_l, and_true_r, and_both}
use Rattle.kit.proofs.Meaning.{all_append, sum-append}
use Rattle.handle.specs.Handle.{id_of}
use Rattle.events.specs.Events.{Rules, rule, Event, event, walk_of, walks_of, rules_from}
use Rattle.events.specs.declared.Rule.{Rule}
use Rattle.events.specs.declared.Step.{Step}
use Rattle.events.specs.WellFormed.{steps_later, in_order_from, in_order}
use Rattle.expansion.specs.Expansion.{expand_node, expand_walk, expand_from, expanded}
use Rattle.expansion.specs.Filling.{toward}
use Rattle.expansion.proofs.Nodes.{is_forward, has_key_of}
use Rattle.expansion.proofs.Order.{free, walk_free, memo_next, memo_own, memo_twice, memo}
use Rattle.expansion.proofs.Tables.{table_of, table_is}
use Rattle.events.proofs.Walks.{sum-turn}

-- keys and order
abbrev pub key_of : Rule → Rule
key_of r = rule r.id r.len 0 0

keys_from : (steps : List Step) (first : ℕ) (rs : List Rule) → map key_of (rules_from first (expand_from steps rs)) ≡ map key_of rs
keys_from steps first [] = refl
keys_from steps first (r ∷ rs) = ap (λ (l : List Rule). key_of r ∷ l) (keys_from steps (first + length (expand_walk steps rs (walk_of steps r))) rs)

pub keys_kept : (t : Rules) → map key_of (expanded t).rules ≡ map key_of t.rules
keys_kept t = ap (λ (x : Rules). map key_of x.rules) (table_is t) ∙ keys_from t.steps 0 t.rules

-- no step has a rule left
keys_same : (steps : List Step) (first : ℕ) (rs : List Rule) (s : Step) → free (rules_from first (expand_from steps rs)) s ≡ free rs s
keys_same steps first rs s = ap not (by first rs)
  where
    by : (first : ℕ) (rs : List Rule) → any (has_key_of s) (rules_from first (expand_from steps rs)) ≡ any (has_key_of s) rs
    by first [] = refl
    by first (r ∷ rs) = ap (λ (b : Bool). has_key_of s r || b) (by (first + length (expand_walk steps rs (walk_of steps r))) rs)

all_same : (p q : Step → Bool) (ws : List Step) → ((s : Step) → p s ≡ q s) → all p ws ≡ all q ws
all_same p q [] h = refl
all_same p q (s ∷ ws) h = ap₂ ◌&&◌ (h s) (all_same p q ws h)

walks-free : (steps : List Step) (met rs : List Rule) → in_order_from met steps rs ≡ true → steps_later (met ++ rs) (walks_of (expand_from steps rs)) ≡ true
walks-free steps met [] t = refl
walks-free steps met (r ∷ rs) t =
    let here = steps_later (met ++ (r ∷ [])) (walk_of steps r) in
    let after = in_order_from (met ++ (r ∷ [])) steps rs in
    let walk = expand_walk steps rs (walk_of steps r) in
    let e : (met ++ (r ∷ [])) ++ rs ≡ met ++ (r ∷ rs) = append_assoc met (r ∷ []) rs in
    all_append (free (met ++ (r ∷ rs))) walk (walks_of (expand_from steps rs))
    ∙ and_both (steps_later (met ++ (r ∷ rs)) walk) (steps_later (met ++ (r ∷ rs)) (walks_of (expand_from steps rs)))
    (rw e at (walk_free steps (met ++ (r ∷ [])) rs (and_true_r here after t) (walk_of steps r) (and_true_l here after t)))
    (rw e at (walks-free steps (met ++ (r ∷ [])) rs (and_true_r here after t)))

pub none_left : (t : Rules) → in_order t ≡ true → steps_later (expanded t).rules (expanded t).steps ≡ true
none_left t h =
    ap (λ (x : Rules). steps_later x.rules x.steps) (table_is t)
    ∙ all_same (free (rules_from 0 (expand_from t.steps t.rules))) (free t.rules) (walks_of (expand_from t.steps t.rules)) (keys_same t.steps 0 t.rules)
    ∙ walks-free t.steps [] t.rules h

-- expanding the expanded
module _ (steps others : List Step) where
  again : (met rs : List Rule) (first : ℕ) → in_order_from met steps rs ≡ true → drop first others ≡ walks_of (expand_from steps rs) → expand_from others (rules_from first (expand_from steps rs)) ≡ expand_from steps rs
  again met [] first t e = refl
  again met (r ∷ rs) first t e =
      let walk = expand_walk steps rs (walk_of steps r) in
      let next = first + length walk in
      let after = and_true_r (steps_later (met ++ (r ∷ [])) (walk_of steps r)) (in_order_from (met ++ (r ∷ [])) steps rs) t in
      let more = memo_next steps others r rs first e in
      let own = memo_twice steps others r rs first met (rules_from next (expand_from steps rs)) t e (memo steps others (met ++ (r ∷ [])) rs next after more) in
      ap₂ (λ (w : List Step) (es : List Event). event r.id r.len w ∷ es) own (again (met ++ (r ∷ [])) rs next after more)

pub expand_again : (t : Rules) → in_order t ≡ true → expanded (expanded t) ≡ expanded t
expand_again t h =
    let es = expand_from t.steps t.rules in
    ap expanded (table_is t) ∙ table_is (table_of es)
    ∙ ap table_of (again t.steps (walks_of es) [] t.rules 0 h refl)
    ∙ sym (table_is t)

-- lengths
abbrev pub length_of : List Step → ℕ
length_of ws = sum (λ (s : Step). s.len) ws

-- a rule's steps are together as long as its key says
abbrev pub sums : List Step → Rule → Bool
sums steps r = eqb (length_of (walk_of steps r)) r.len

length-toward : (forward : Bool) (ws : List Step) → length_of (toward forward ws) ≡ length_of ws
length-toward true ws = refl
length-toward false ws = sum-turn ws

length-lines : (f : Step → List Step) (ws : List Step) → ((s : Step) → length_of (f s) ≡ s.len) → length_of (lines f ws) ≡ length_of ws
length-lines f [] h = refl
length-lines f (s ∷ ws) h = omega (arith, sum-append (λ (x : Step). x.len) (f s) (lines f ws), h s, length-lines f ws h)

module _ (steps : List Step) where
  node-length : (rs : List Rule) → all (sums steps) rs ≡ true → (s : Step) → length_of (expand_node steps rs s) ≡ s.len
  node-length [] t s = omega arith
  node-length (r ∷ rs) t s = by (has_key_of s r) refl (node-length rs (and_true_r (sums steps r) (all (sums steps) rs) t))
    where
      by : (b : Bool) → has_key_of s r ≡ b → ((x : Step) → length_of (expand_node steps rs x) ≡ x.len) → length_of (cond b (toward (is_forward s) (expand_walk steps rs (walk_of steps r))) (expand_node steps rs s)) ≡ s.len
      by true k go =
          length-toward (is_forward s) (expand_walk steps rs (walk_of steps r)) ∙ length-lines (expand_node steps rs) (walk_of steps r) go
          ∙ eqb-true (length_of (walk_of steps r)) r.len (and_true_l (sums steps r) (all (sums steps) rs) t)
          ∙ eqb-true r.len s.len (and_true_r (eqb r.id (id_of s.node)) (eqb r.len s.len) k)
      by false k go = go s

  rules-length : (others : List Step) (rs : List Rule) (first : ℕ) → all (sums steps) rs ≡ true → drop first others ≡ walks_of (expand_from steps rs) → all (sums others) (rules_from first (expand_from steps rs)) ≡ true
  rules-length others [] first t e = refl
  rules-length others (r ∷ rs) first t e =
      let walk = expand_walk steps rs (walk_of steps r) in
      let rest = and_true_r (sums steps r) (all (sums steps) rs) t in
      and_both _ _
      (eq-eqb (length_of (take (length walk) (drop first others))) r.len
      (ap length_of (memo_own steps others r rs first e) ∙ length-lines (expand_node steps rs) (walk_of steps r) (node-length rs rest)
      ∙ eqb-true (length_of (walk_of steps r)) r.len (and_true_l (sums steps r) (all (sums steps) rs) t)))
      (rules-length others rs (first + length walk) rest (memo_next steps others r rs first e))

pub lengths_kept : (t : Rules) → all (sums t.steps) t.rules ≡ true → all (sums (expanded t).steps) (expanded t).rules ≡ true
lengths_kept t h =
    let es = expand_from t.steps t.rules in
    ap (λ (x : Rules). all (sums x.steps) x.rules) (table_is t) ∙ rules-length t.steps (walks_of es) t.rules 0 h refl
