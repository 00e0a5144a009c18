-- The tests of a rule's walk, step by step, and what they say of each step.
use Prim.Native.Nat.{ℕ, zero, suc, ◌+◌, ◌<◌}
use mathlib.Core.Path.{◌≡◌, refl, ap, ◌∙◌}
use mathlib.Core.Bool.{Bool, true, ◌&&◌}
use mathlib.Core.List.{List, [], ◌∷◌}
use native.Mathlib.Nat.{not-suc-le-zero}
use native.Mathlib.Omega.{arith}
use borrow.Author.Tests.{eq-eqb, eqb-true}
use lib.ListN.{length}
use Rattle.kit.specs.Loops.{all}
use Rattle.kit.proofs.Bools.{and_true_l, and_true_r, and_both}
use Rattle.handle.specs.Handle.{id_of}
use Rattle.handle.specs.Edge.{edge}
use Rattle.store.specs.Graph.{Graph}
use Rattle.store.specs.Views.{len_of, live_linked}
use Rattle.events.specs.declared.Step.{Step}
use Rattle.scanning.specs.Rules.{step_lives, length_true, follows}
use Rattle.promises.specs.Tests.{walk_tests}
use Rattle.promises.specs.Conditions.{step_at, StepHolds}
use Rattle.promises.proofs.First.{passes}

-- four tests in a row
record Four (a b c d : Bool) : Type 0 where
  one : a ≡ true
  two : b ≡ true
  three : c ≡ true
  rest : d ≡ true

four : (a b c d : Bool) → (a && (b && (c && d))) ≡ true → Four a b c d
four a b c d t =
    let u = and_true_r a (b && (c && d)) t in
    let v = and_true_r b (c && d) u in
    record { one = and_true_l a (b && (c && d)) t; two = and_true_l b (c && d) u; three = and_true_l c d v; rest = and_true_r c d v }

all_four : (a b c d : Bool) → Four a b c d → (a && (b && (c && d))) ≡ true
all_four a b c d f = and_both _ _ f.one (and_both _ _ f.two (and_both _ _ f.three f.rest))

module _ (new : Graph) where
  -- one step more in front of both
  pub later : (b : Step) (ss : List Step) (k : ℕ) → StepHolds new ss (suc k) → StepHolds new (b ∷ ss) (suc (suc k))
  later b ss k h = record { lives = h.lives; own_length = h.own_length; joined = from }
    where
      from : (i : ℕ) → i + 1 ≡ suc (suc k) → live_linked new (edge (step_at (b ∷ ss) i).node (step_at ss (suc k)).node) ≡ true
      from zero e = absurd (omega arith)
      from (suc i) e = h.joined i (omega arith)

  sooner : (b : Step) (ss : List Step) (k : ℕ) → StepHolds new (b ∷ ss) (suc (suc k)) → StepHolds new ss (suc k)
  sooner b ss k h = record { lives = h.lives; own_length = h.own_length; joined = λ i e. h.joined (suc i) (omega arith) }

  module _ (i : ℕ) where
    after_says : (j : ℕ) (b : Step) (ss : List Step) → all passes (walk_tests new i j (b ∷ []) ss) ≡ true → (k : ℕ) → k < length ss → StepHolds new (b ∷ ss) (suc k)
    after_says j b [] t k h = absurd (not-suc-le-zero h)
    after_says j b (s ∷ ss) t zero h =
        let f = four (step_lives new s) (length_true new s) (follows new (b ∷ []) s) (all passes (walk_tests new i (j + 1) (s ∷ []) ss)) t in
        record {
          lives = f.one;
          own_length = eqb-true s.len (len_of new (id_of s.node)) f.two;
          joined = λ n e.
              let z : n ≡ 0 = omega arith in
              ap (λ (m : ℕ). live_linked new (edge (step_at (b ∷ s ∷ ss) m).node s.node)) z ∙ f.three;
        }
    after_says j b (s ∷ ss) t (suc k) h =
        let f = four (step_lives new s) (length_true new s) (follows new (b ∷ []) s) (all passes (walk_tests new i (j + 1) (s ∷ []) ss)) t in
        later b (s ∷ ss) k (after_says (j + 1) s ss f.rest k (omega arith))

    says_after : (j : ℕ) (b : Step) (ss : List Step) → ((k : ℕ) → k < length ss → StepHolds new (b ∷ ss) (suc k)) → all passes (walk_tests new i j (b ∷ []) ss) ≡ true
    says_after j b [] h = refl
    says_after j b (s ∷ ss) h =
        let f = h 0 (omega arith) in
        all_four _ _ _ _ (record {
          one = f.lives;
          two = eq-eqb s.len (len_of new (id_of s.node)) f.own_length;
          three = f.joined 0 refl;
          rest = says_after (j + 1) s ss (λ k n. sooner b (s ∷ ss) k (h (suc k) (omega arith)));
        })

    pub walk_says : (ss : List Step) → all passes (walk_tests new i 0 [] ss) ≡ true → (k : ℕ) → k < length ss → StepHolds new ss k
    walk_says [] t k h = absurd (not-suc-le-zero h)
    walk_says (s ∷ ss) t zero h =
        let f = four (step_lives new s) (length_true new s) true (all passes (walk_tests new i 1 (s ∷ []) ss)) t in
        record {
          lives = f.one;
          own_length = eqb-true s.len (len_of new (id_of s.node)) f.two;
          joined = λ n e. absurd (omega arith);
        }
    walk_says (s ∷ ss) t (suc k) h =
        after_says 1 s ss (four (step_lives new s) (length_true new s) true (all passes (walk_tests new i 1 (s ∷ []) ss)) t).rest k (omega arith)

    pub says_walk : (ss : List Step) → ((k : ℕ) → k < length ss → StepHolds new ss k) → all passes (walk_tests new i 0 [] ss) ≡ true
    says_walk [] h = refl
    says_walk (s ∷ ss) h =
        let f = h 0 (omega arith) in
        all_four _ _ _ _ (record {
          one = f.lives;
          two = eq-eqb s.len (len_of new (id_of s.node)) f.own_length;
          three = refl;
          rest = says_after 1 s ss (λ k n. h (suc k) (omega arith));
        })
