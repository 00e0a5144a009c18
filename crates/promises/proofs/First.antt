-- The checker's answer is the first fault: 20 to 28 are each given exactly when a test with that number is the first to
-- fail, with its places.
use Prim.Native.Nat.{ℕ, zero, suc, ◌+◌, ◌≤◌, ◌<◌}
use mathlib.Core.Path.{◌≡◌, refl, sym, ap, ◌∙◌, subst}
use mathlib.Core.Logic.{◌↔◌, ◌⊎◌, inl, inr}
use mathlib.Core.Bool.{Bool, true, false, cond, ◌&&◌}
use mathlib.Core.List.{List, [], ◌∷◌, ◌++◌}
use native.Mathlib.Nat.{not-suc-le-zero}
use native.Mathlib.Omega.{arith}
use borrow.Author.Tests.{leb-true, ne_eqb}
use lib.Dec.{eqb, leb}
use Rattle.kit.specs.Loops.{all}
use Rattle.kit.proofs.Bools.{never, and_true_l, and_true_r, and_both}
use Rattle.kit.proofs.Meaning.{all_append}
use Rattle.handle.specs.declared.Handle.{Handle}
use Rattle.store.specs.Graph.{Graph}
use Rattle.store.specs.declared.Link.{Link}
use Rattle.store.specs.Order.{written_order}
use Rattle.events.specs.Events.{Rules, walk_of}
use Rattle.events.specs.declared.Rule.{Rule}
use Rattle.events.specs.declared.Step.{Step}
use Rattle.scanning.specs.declared.Verdict.{Verdict}
use Rattle.scanning.specs.Rules.{verdict, or_then, unless, steps_fault, rule_fault, rules_fault}
use Rattle.keeping.specs.Kept.{nodes_fault, old_nodes, links_fault}
use Rattle.verdict.specs.Conditions.{protected_fault, protected_ids, conditions_fault}
use Rattle.promises.specs.Tests.{Test, test, walk_tests, rule_tests, rules_tests, nodes_tests, links_tests, protected_tests, all_tests, test_at, FirstToFail}

abbrev pub first_fault : List Test → Verdict
first_fault [] = verdict 0 0 0
first_fault (x ∷ xs) = cond x.passes (first_fault xs) x.fault

-- a fault's number is one of 20 to 28
abbrev is_fault : ℕ → Bool
is_fault n = leb 20 n && leb n 28

abbrev pub numbered : Test → Bool
numbered x = is_fault x.fault.number

module _ (n : ℕ) (f : is_fault n ≡ true) where
  pub fault_low : 20 ≤ n
  fault_low = leb-true 20 n (and_true_l (leb 20 n) (leb n 28) f)

  fault_high : n ≤ 28
  fault_high = leb-true n 28 (and_true_r (leb 20 n) (leb n 28) f)

  fault-not-zero : eqb n 0 ≡ false
  fault-not-zero = ne_eqb n 0 (λ z. omega (arith, fault_low))

-- v is what the tests give
pub record Gives (v : Verdict) (xs : List Test) : Type 0 where
  pub is_first : v ≡ first_fault xs
  pub all_numbered : all numbered xs ≡ true

first-append : (xs ys : List Test) → all numbered xs ≡ true → or_then (first_fault xs) (first_fault ys) ≡ first_fault (xs ++ ys)
first-append [] ys n = refl
first-append (x ∷ xs) ys n = by x.passes (first-append xs ys (and_true_r (numbered x) (all numbered xs) n))
  where
    by : (b : Bool) → or_then (first_fault xs) (first_fault ys) ≡ first_fault (xs ++ ys) → or_then (cond b (first_fault xs) x.fault) (first_fault ys) ≡ cond b (first_fault (xs ++ ys)) x.fault
    by true e = e
    by false e = rw (fault-not-zero x.fault.number (and_true_l (numbered x) (all numbered xs) n))

gives_then : {v w : Verdict} {xs ys : List Test} → Gives v xs → Gives w ys → Gives (or_then v w) (xs ++ ys)
gives_then {v} {w} {xs} {ys} a b = record {
  is_first = ap (λ (u : Verdict). or_then u w) a.is_first ∙ ap (or_then (first_fault xs)) b.is_first ∙ first-append xs ys a.all_numbered;
  all_numbered = all_append numbered xs ys ∙ and_both (all numbered xs) (all numbered ys) a.all_numbered b.all_numbered;
}

gives_none : Gives (verdict 0 0 0) []
gives_none = record { is_first = refl; all_numbered = refl }

gives_one : (p : Bool) (number first second : ℕ) → is_fault number ≡ true → Gives (unless p number first second) (test p number first second ∷ [])
gives_one p number first second e = record { is_first = refl; all_numbered = and_both (is_fault number) true e refl }

gives_walk : (new : Graph) (i j : ℕ) (before ss : List Step) → Gives (steps_fault new i j before ss) (walk_tests new i j before ss)
gives_walk new i j before [] = gives_none
gives_walk new i j before (s ∷ ss) =
    gives_then
    (gives_then (gives_one _ 21 i j refl) (gives_then (gives_one _ 22 i j refl) (gives_one _ 23 i j refl)))
    (gives_walk new i (j + 1) (s ∷ []) ss)

module _ (old new : Graph) (t : Rules) where
  gives_rule : (i : ℕ) (r : Rule) → Gives (rule_fault old new t.steps i r) (rule_tests old new t.steps i r)
  gives_rule i r =
      gives_then (gives_one _ 20 i 0 refl)
      (gives_then (gives_walk new i 0 [] (walk_of t.steps r)) (gives_then (gives_one _ 24 i 0 refl) (gives_one _ 25 i 0 refl)))

  gives_rules : (i : ℕ) (rs : List Rule) → Gives (rules_fault old new t.steps i rs) (rules_tests old new t.steps i rs)
  gives_rules i [] = gives_none
  gives_rules i (r ∷ rs) = gives_then (gives_rule i r) (gives_rules (i + 1) rs)

  gives_nodes : (hs : List Handle) → Gives (nodes_fault old new t hs) (nodes_tests old new t hs)
  gives_nodes [] = gives_none
  gives_nodes (h ∷ hs) = gives_then (gives_one _ 26 _ 0 refl) (gives_nodes hs)

  gives_links : (i : ℕ) (rs : List Link) → Gives (links_fault old new t i rs) (links_tests old new t i rs)
  gives_links i [] = gives_none
  gives_links i (r ∷ rs) = gives_then (gives_one _ 27 i 0 refl) (gives_links (i + 1) rs)

  gives_protected : (i : ℕ) (seen ids : List ℕ) → Gives (protected_fault old t i seen ids) (protected_tests old t i seen ids)
  gives_protected i seen [] = gives_none
  gives_protected i seen (id ∷ ids) = gives_then (gives_one _ 28 i 0 refl) (gives_protected (i + 1) (seen ++ protected_ids old t id) ids)

  pub gives_all : (protected : List ℕ) → Gives (conditions_fault old new t protected) (all_tests old new t protected)
  gives_all protected =
      gives_then (gives_rules 0 t.rules)
      (gives_then (gives_nodes (old_nodes old))
      (gives_then (gives_links 0 (written_order old.links)) (gives_protected 0 [] protected)))

-- the first to fail, from the tests to its place and back
record Failed (xs : List Test) : Type 0 where
  at : ℕ
  first : FirstToFail xs at
  gives : (test_at xs at).fault ≡ first_fault xs

failed : (xs : List Test) → ((first_fault xs).number ≡ 0 → ⊥) → Failed xs
failed [] n = absurd (n refl)
failed (x ∷ xs) n = by x.passes refl n (failed xs)
  where
    by : (b : Bool) → x.passes ≡ b → ((cond b (first_fault xs) x.fault).number ≡ 0 → ⊥) → (((first_fault xs).number ≡ 0 → ⊥) → Failed xs) → Failed (x ∷ xs)
    by true e m go =
        let f = go m in
        record {
          at = suc f.at;
          first = record { here = omega (arith, f.first.here); fails = f.first.fails; others_pass = passed f };
          gives = rw e f.gives;
        }
      where
        passed : (f : Failed xs) (j : ℕ) → j < suc f.at → (test_at (x ∷ xs) j).passes ≡ true
        passed f zero h = e
        passed f (suc j) h = f.first.others_pass j (omega arith)
    by false e m go =
        record {
          at = 0;
          first = record { here = omega arith; fails = e; others_pass = λ j h. absurd (not-suc-le-zero h) };
          gives = rw e;
        }

gives_first : (xs : List Test) (i : ℕ) → FirstToFail xs i → first_fault xs ≡ (test_at xs i).fault
gives_first [] i f = absurd (not-suc-le-zero f.here)
gives_first (x ∷ xs) zero f = rw f.fails
gives_first (x ∷ xs) (suc i) f =
    rw (f.others_pass 0 (omega arith))
    (gives_first xs i (record { here = omega (arith, f.here); fails = f.fails; others_pass = λ j h. f.others_pass (suc j) (omega arith) }))

pub first_fault_lem : (old new : Graph) (t : Rules) (protected : List ℕ) (v : Verdict) → (v.number ≡ 0 → ⊥) → (conditions_fault old new t protected ≡ v) ↔ ((i : ℕ) × FirstToFail (all_tests old new t protected) i × ((test_at (all_tests old new t protected) i).fault ≡ v))
first_fault_lem old new t protected v n =
    let e = (gives_all old new t protected).is_first in
    let xs = all_tests old new t protected in (
      λ q. let f = failed xs (λ z. n (ap (λ (u : Verdict). u.number) (sym q ∙ e) ∙ z)) in (f.at, f.first, f.gives ∙ sym e ∙ q),
      λ r. e ∙ gives_first xs r.0 r.1 ∙ r.2,
    )

-- no fault exactly when every test passes
abbrev pub passes : Test → Bool
passes x = x.passes

pub first_none : (xs : List Test) → all numbered xs ≡ true → ((first_fault xs).number ≡ 0) ↔ (all passes xs ≡ true)
first_none [] n = (λ e. refl, λ e. refl)
first_none (x ∷ xs) n = by x.passes (first_none xs (and_true_r (numbered x) (all numbered xs) n))
  where
    by : (b : Bool) → ((first_fault xs).number ≡ 0) ↔ (all passes xs ≡ true) → ((cond b (first_fault xs) x.fault).number ≡ 0) ↔ ((b && all passes xs) ≡ true)
    by true e = e
    by false e =
        let z = fault_low x.fault.number (and_true_l (numbered x) (all numbered xs) n) in
        (λ q. absurd (omega arith), λ q. never (sym q))

-- the answer's number is 0 or one of 20 to 28
range : (xs : List Test) → all numbered xs ≡ true → ((first_fault xs).number ≡ 0) ⊎ ((20 ≤ (first_fault xs).number) × ((first_fault xs).number ≤ 28))
range [] n = inl refl
range (x ∷ xs) n = by x.passes (range xs (and_true_r (numbered x) (all numbered xs) n))
  where
    by : (b : Bool) → ((first_fault xs).number ≡ 0) ⊎ ((20 ≤ (first_fault xs).number) × ((first_fault xs).number ≤ 28)) → ((cond b (first_fault xs) x.fault).number ≡ 0) ⊎ ((20 ≤ (cond b (first_fault xs) x.fault).number) × ((cond b (first_fault xs) x.fault).number ≤ 28))
    by true r = r
    by false r = let f = and_true_l (numbered x) (all numbered xs) n in inr (fault_low x.fault.number f, fault_high x.fault.number f)

pub fault_range : (old new : Graph) (t : Rules) (protected : List ℕ) → ((conditions_fault old new t protected).number ≡ 0) ⊎ ((20 ≤ (conditions_fault old new t protected).number) × ((conditions_fault old new t protected).number ≤ 28))
fault_range old new t protected =
    let g = gives_all old new t protected in
    subst (λ (v : Verdict). (v.number ≡ 0) ⊎ ((20 ≤ v.number) × (v.number ≤ 28))) (sym g.is_first) (range (all_tests old new t protected) g.all_numbered)
