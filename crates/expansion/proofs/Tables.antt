-- The table of an expanded list, rule by rule.
use Prim.Native.Nat.{ℕ, zero, suc, ◌+◌, ◌-◌, ◌≤◌}
use mathlib.Core.Path.{◌≡◌, refl, sym, ap, ap₂, ◌∙◌}
use mathlib.Core.Bool.{true}
use mathlib.Core.List.{List, [], ◌∷◌, ◌++◌, map, append_assoc, append-nil}
use native.Mathlib.Omega.{arith}
use borrow.Author.Tests.{le-leb}
use lib.ListN.{length, drop, length-append}
use Rattle.kit.specs.Loops.{all, sum}
use Rattle.kit.proofs.Bools.{and_both}
use Rattle.events.specs.Events.{Rules, rule, Event, walk_of, append_all, append, walks_of, rules_from}
use Rattle.events.specs.declared.Rule.{Rule}
use Rattle.events.specs.declared.Step.{Step}
use Rattle.expansion.specs.Expansion.{expand_walk, expand_from, expanded}
use Rattle.expansion.specs.Filling.{lies}
use Rattle.expansion.specs.Table.{rules_by, sizes_of}
use Rattle.expansion.proofs.Walking.{lies_below}

abbrev pub table_of : List Event → Rules
table_of es = record { rules = rules_from 0 es; steps = walks_of es }

abbrev joined : List Rule → List Step → Rules
joined rs ss = record { rules = rs; steps = ss }

appended : (t : Rules) (es : List Event) → append_all t es ≡ joined (t.rules ++ rules_from (length t.steps) es) (t.steps ++ walks_of es)
appended t [] = ap₂ joined (sym (append-nil t.rules)) (sym (append-nil t.steps))
appended t (e ∷ es) =
    let r = rule e.id e.len (length t.steps) (length e.walk) in
    appended (append t e) es
    ∙ ap₂ joined
    (append_assoc t.rules (r ∷ []) (rules_from (length (t.steps ++ e.walk)) es) ∙ ap (λ (n : ℕ). t.rules ++ (r ∷ rules_from n es)) (length-append t.steps e.walk))
    (append_assoc t.steps e.walk (walks_of es))

pub table_is : (t : Rules) → expanded t ≡ table_of (expand_from t.steps t.rules)
table_is t = appended (joined [] []) (expand_from t.steps t.rules)

pub length_events : (steps : List Step) (rs : List Rule) → length (expand_from steps rs) ≡ length rs
length_events steps [] = refl
length_events steps (r ∷ rs) = ap suc (length_events steps rs)

pub drop_events : (steps : List Step) (i : ℕ) (rs : List Rule) → drop i (expand_from steps rs) ≡ expand_from steps (drop i rs)
drop_events steps zero [] = refl
drop_events steps zero (r ∷ rs) = refl
drop_events steps (suc i) [] = refl
drop_events steps (suc i) (r ∷ rs) = drop_events steps i rs

-- where the rules from i on start, counted from the end of their walks
drop-rules : (i first : ℕ) (es : List Event) → drop i (rules_from first es) ≡ rules_from (first + length (walks_of es) - length (walks_of (drop i es))) (drop i es)
drop-rules zero first [] = refl
drop-rules zero first (e ∷ es) = ap (λ (n : ℕ). rules_from n (e ∷ es)) (omega arith)
drop-rules (suc i) first [] = refl
drop-rules (suc i) first (e ∷ es) =
    drop-rules i (first + length e.walk) es
    ∙ ap (λ (n : ℕ). rules_from n (drop i es)) (omega (arith, length-append e.walk (walks_of es)))

pub rules_from_lem : (steps : List Step) (i : ℕ) (rs : List Rule) → drop i (rules_from 0 (expand_from steps rs)) ≡ rules_from (length (walks_of (expand_from steps rs)) - length (walks_of (expand_from steps (drop i rs)))) (expand_from steps (drop i rs))
rules_from_lem steps i rs =
    drop-rules i 0 (expand_from steps rs)
    ∙ ap (λ (es : List Event). rules_from (0 + length (walks_of (expand_from steps rs)) - length (walks_of es)) es) (drop_events steps i rs)
    ∙ ap (λ (n : ℕ). rules_from n (expand_from steps (drop i rs))) (omega arith)

-- a part of the walks is no longer than all of them
pub walks-part : (i : ℕ) (steps : List Step) (rs : List Rule) → length (walks_of (expand_from steps (drop i rs))) ≤ length (walks_of (expand_from steps rs))
walks-part zero steps [] = omega arith
walks-part zero steps (r ∷ rs) = omega arith
walks-part (suc i) steps [] = omega arith
walks-part (suc i) steps (r ∷ rs) = omega (arith, walks-part i steps rs, length-append (expand_walk steps rs (walk_of steps r)) (walks_of (expand_from steps rs)))

-- each walk lies after the one before it
pub lies_from : (total first : ℕ) (es : List Event) → first + length (walks_of es) ≤ total → all (lies first total) (rules_from first es) ≡ true
lies_from total first [] h = refl
lies_from total first (e ∷ es) h =
    let n = length-append e.walk (walks_of es) in
    let fits : first + length e.walk ≤ total = omega arith in
    and_both _ _
    (and_both _ _ (le-leb first first (omega arith)) (le-leb (first + length e.walk) total fits))
    (lies_below total first (first + length e.walk) (omega arith) (rules_from (first + length e.walk) es) (lies_from total (first + length e.walk) es (omega arith)))

-- the lengths of the walks, and the table's rules by them
abbrev pub lengths_of : List Event → List ℕ
lengths_of es = map (λ e. length e.walk) es

pub sizes_exact : (es : List Event) → length (walks_of es) ≤ 262144 → sizes_of es ≡ lengths_of es
sizes_exact [] h = refl
sizes_exact (e ∷ es) h =
    let n = length-append e.walk (walks_of es) in
    ap₂ ◌∷◌ (omega arith) (sizes_exact es (omega arith))

pub sum_lengths : (es : List Event) → sum (λ (n : ℕ). n) (lengths_of es) ≡ length (walks_of es)
sum_lengths [] = refl
sum_lengths (e ∷ es) = omega (arith, sum_lengths es, length-append e.walk (walks_of es))

pub rules_by_lem : (steps : List Step) (first : ℕ) (rs : List Rule) → rules_by first rs (lengths_of (expand_from steps rs)) ≡ rules_from first (expand_from steps rs)
rules_by_lem steps first [] = refl
rules_by_lem steps first (r ∷ rs) =
    let n = length (expand_walk steps rs (walk_of steps r)) in
    ap (λ (l : List Rule). rule r.id r.len first n ∷ l) (rules_by_lem steps (first + n) rs)
