use Prim.Native.Nat.{ℕ, ◌-◌}
use mathlib.Core.Path.{◌≡◌, sym, ap, ap₂, ◌∙◌}
use mathlib.Core.Bool.{true}
use mathlib.Core.List.{[], List, ◌∷◌, ◌++◌}
use native.Mathlib.Omega.{arith}
use borrow.Author.Tests.{eq-eqb, ne_eqb, lt-ltb, le-ltb}
use lib.Dec.{ltb}
use lib.ListN.{length}
use Rattle.handle.specs.declared.Handle.{Handle}
use Rattle.handle.specs.Handle.{dir_of}
use Rattle.events.specs.Events.{step_layout, steps_of, step_to}
use Rattle.events.specs.declared.Step.{Step}
use Rattle.longer.specs.Longer.{facing, front}
use Rattle.longer.proofs.OneEvent.{exact_walk, forward_walk, reverse_walk, exact-length, long-length}
use Rattle.longer.proofs.push_walk.Goals as goal

-- steps stored are the walk's
done : (count : ℕ) (l m : List ℕ) {walk ss : List Step} → walk ≡ ss → m ≡ front step_layout (steps_of count l ++ ss) l → (length ss ≡ length walk) × (m ≡ front step_layout (steps_of count l ++ walk) l)
done count l m w e = (ap length (sym w), rw w e)

pub push_step-requires : goal.push_step-requires
push_step-requires c =
    let a = c.args in
    omega (arith, exact-length a.p a.len a.x a.fresh a.m (le-ltb a.p a.len c.if-len-p.true))

pub returns-then-len-p : goal.returns-then-len-p
returns-then-len-p c =
    let a = c.args in
    let both = done a.count a.steps.now _ (exact_walk a.p a.len a.x a.fresh a.m (le-ltb a.p a.len c.if-len-p.true) ∙ ap (λ (h : Handle). step_to h a.p ∷ []) (sym c.facing-shared.ensures)) c.push_step.ensures in record { value = both.0; steps_after = both.1 }

pub suffix_of-requires : goal.suffix_of-requires
suffix_of-requires c =
    let l : ltb c.args.p c.args.len ≡ true = lt-ltb c.args.p c.args.len (omega arith) in
    let h = rw l at c.requires.fresh_bound in
    omega arith

pub push_two-requires : goal.push_two-requires
push_two-requires c =
    let a = c.args in
    omega (arith, long-length a.p a.len a.x a.fresh a.m (lt-ltb a.p a.len (omega arith)))

pub returns-then-direction-eq-FORWARD : goal.returns-then-direction-eq-FORWARD
returns-then-direction-eq-FORWARD c =
    let a = c.args in
    let other = c.facing-other.ensures ∙ ap (facing a.m) c.suffix_of.ensures in
    let both = done a.count a.steps.now _ (forward_walk a.p a.len a.x a.fresh a.m (lt-ltb a.p a.len (omega arith)) (eq-eqb (dir_of a.m) 0 (sym c.direction.ensures ∙ c.if-direction-eq-FORWARD.true)) ∙ ap₂ (λ (g h : Handle). step_to g a.p ∷ step_to h (a.len - a.p) ∷ []) (sym c.facing-shared.ensures) (sym other)) c.push_two.ensures in record { value = both.0; steps_after = both.1 }

pub push_two-requires-2 : goal.push_two-requires-2
push_two-requires-2 c =
    let a = c.args in
    omega (arith, long-length a.p a.len a.x a.fresh a.m (lt-ltb a.p a.len (omega arith)))

pub returns : goal.returns
returns c =
    let a = c.args in
    let other = c.facing-other.ensures ∙ ap (facing a.m) c.suffix_of.ensures in
    let both = done a.count a.steps.now _ (reverse_walk a.p a.len a.x a.fresh a.m (lt-ltb a.p a.len (omega arith)) (ne_eqb (dir_of a.m) 0 (λ e. c.if-direction-eq-FORWARD.false (c.direction.ensures ∙ e))) ∙ ap₂ (λ (g h : Handle). step_to h (a.len - a.p) ∷ step_to g a.p ∷ []) (sym c.facing-shared.ensures) (sym other)) c.push_two-2.ensures in record { value = both.0; steps_after = both.1 }
