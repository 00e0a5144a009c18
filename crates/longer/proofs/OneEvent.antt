-- One member's event: how many steps it has, what they are asked, and how long they are together.
use Prim.Native.Nat.{ℕ, ◌+◌, ◌-◌, ◌≤◌}
use mathlib.Core.Path.{◌≡◌, refl, ap, ap₂, ◌∙◌}
use mathlib.Core.Bool.{Bool, true, false, cond, ◌&&◌, and-true, and_comm}
use mathlib.Core.List.{List, [], ◌∷◌}
use native.Mathlib.Omega.{arith}
use lib.Dec.{ltb}
use lib.ListN.{length}
use Rattle.kit.specs.Loops.{all, sum}
use Rattle.kit.proofs.Bools.{tests}
use Rattle.kit.proofs.Meaning.{all_append}
use Rattle.handle.specs.declared.Handle.{Handle}
use Rattle.handle.specs.Handle.{id_of, flip}
use Rattle.handle.proofs.Handles.{id-flip}
use Rattle.events.specs.Events.{step_to, turn_steps}
use Rattle.events.specs.declared.Step.{Step}
use Rattle.merging.specs.Merging.{is_forward}
use Rattle.merging.specs.Plan.{suffix_by}
use Rattle.longer.specs.Longer.{walk_one, event_one, facing}
use Rattle.events.proofs.Walks.{length-turn, sum-turn}

-- reversed and flipped, a walk has the same ids and lengths
pub all-turned : (q : ℕ → ℕ → Bool) (ss : List Step) → all (λ s. q (id_of s.node) s.len) (turn_steps ss) ≡ all (λ s. q (id_of s.node) s.len) ss
all-turned q [] = refl
all-turned q (s ∷ ss) =
    let asked : Step → Bool = λ r. q (id_of r.node) r.len in
    let last : Step = step_to (flip s.node) s.len in
    all_append asked (turn_steps ss) (last ∷ [])
    ∙ and_comm (all asked (turn_steps ss)) (asked last && true)
    ∙ ap₂ ◌&&◌ (and-true (asked last) ∙ ap (λ (k : ℕ). q k s.len) (id-flip s.node)) (all-turned q ss)

-- what does not tell a walk from the walk turned
either : {A : Type 0} (f : List Step → A) (b : Bool) (w : List Step) → f (turn_steps w) ≡ f w → f (cond b w (turn_steps w)) ≡ f w
either f true w e = refl
either f false w e = e

module _ (p len : ℕ) (x : Handle) (fresh : ℕ) (m : Handle) where
  pub walk_length : length (event_one p len x fresh m).walk ≡ 1 + cond (ltb p len) 1 0
  walk_length = either length (is_forward m) (walk_one p len x fresh m) (length-turn (walk_one p len x fresh m)) ∙ by (ltb p len)
    where
      by : (b : Bool) → length (cond b (step_to x p ∷ step_to (suffix_by fresh m) (len - p) ∷ []) (step_to x p ∷ [])) ≡ 1 + cond b 1 0
      by true = refl
      by false = refl

  -- each event's lengths add up to its key's
  pub walk_sum : p ≤ len → sum (λ s. s.len) (event_one p len x fresh m).walk ≡ len
  walk_sum h = either (sum (λ (s : Step). s.len)) (is_forward m) (walk_one p len x fresh m) (sum-turn (walk_one p len x fresh m)) ∙ by (ltb p len) refl
    where
      by : (b : Bool) → ltb p len ≡ b → sum (λ s. s.len) (cond b (step_to x p ∷ step_to (suffix_by fresh m) (len - p) ∷ []) (step_to x p ∷ [])) ≡ len
      by true e = omega (arith, tests)
      by false e = omega (arith, tests)

  -- a test of the ids and lengths: of x, and of a long member's suffix
  pub walk_all : (q : ℕ → ℕ → Bool) → all (λ s. q (id_of s.node) s.len) (event_one p len x fresh m).walk ≡ (q (id_of x) p && cond (ltb p len) (q (id_of (suffix_by fresh m)) (len - p)) true)
  walk_all q =
      either (all (λ (s : Step). q (id_of s.node) s.len)) (is_forward m) (walk_one p len x fresh m) (all-turned q (walk_one p len x fresh m))
      ∙ by (ltb p len)
    where
      by : (b : Bool) → all (λ s. q (id_of s.node) s.len) (cond b (step_to x p ∷ step_to (suffix_by fresh m) (len - p) ∷ []) (step_to x p ∷ [])) ≡ (q (id_of x) p && cond b (q (id_of (suffix_by fresh m)) (len - p)) true)
      by true = ap (λ (b : Bool). q (id_of x) p && b) (and-true (q (id_of (suffix_by fresh m)) (len - p)))
      by false = refl

-- the steps as the code stores them
module _ (p len : ℕ) (x : Handle) (fresh : ℕ) (m : Handle) where
  pub exact_walk : ltb p len ≡ false → (event_one p len x fresh m).walk ≡ step_to (facing m x) p ∷ []
  exact_walk e = rw e (by (is_forward m))
    where
      by : (b : Bool) → cond b (step_to x p ∷ []) (step_to (flip x) p ∷ []) ≡ step_to (cond b x (flip x)) p ∷ []
      by true = refl
      by false = refl

  pub forward_walk : ltb p len ≡ true → is_forward m ≡ true → (event_one p len x fresh m).walk ≡ step_to (facing m x) p ∷ step_to (facing m (suffix_by fresh m)) (len - p) ∷ []
  forward_walk e f = rw (e, f)

  pub reverse_walk : ltb p len ≡ true → is_forward m ≡ false → (event_one p len x fresh m).walk ≡ step_to (facing m (suffix_by fresh m)) (len - p) ∷ step_to (facing m x) p ∷ []
  reverse_walk e f = rw (e, f)

  pub exact-length : ltb p len ≡ false → length (event_one p len x fresh m).walk ≡ 1
  exact-length e = ap length (exact_walk e)

  pub long-length : ltb p len ≡ true → length (event_one p len x fresh m).walk ≡ 2
  long-length e = walk_length p len x fresh m ∙ rw e
