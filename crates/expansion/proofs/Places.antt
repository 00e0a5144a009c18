-- What stays as it was when steps are written below a place: the steps from there on, and the walks that lie there.
use Prim.Native.Nat.{ℕ, zero, suc, ◌+◌, ◌-◌, ◌*◌, ◌≤◌}
use mathlib.Core.Path.{◌≡◌, refl, sym, ap, ◌∙◌}
use mathlib.Core.Bool.{true}
use mathlib.Core.List.{List, [], ◌∷◌}
use native.Mathlib.Omega.{arith}
use native.Mathlib.Nat.{mul-zero}
use borrow.Author.Tests.{leb-true}
use lib.Dec.{leb}
use lib.ListN.{length, take, drop, set}
use lib.Seq.{sets, drop-drop, drop-set-lt}
use Rattle.kit.specs.Layout.{Layout, decode}
use Rattle.kit.specs.Loops.{all}
use Rattle.kit.proofs.Laws.{alike_further}
use Rattle.kit.proofs.Bools.{and_true_l}
use Rattle.events.specs.Events.{step_layout, steps_of, walk_of}
use Rattle.events.specs.declared.Rule.{Rule}
use Rattle.events.specs.declared.Step.{Step}
use Rattle.expansion.specs.Expansion.{expand_node}
use Rattle.expansion.specs.Filling.{lies}
use Rattle.expansion.proofs.Nodes.{node-same}

-- the records from i on are those of the numbers from there on
pub drop-decode : {A : Type 0} (L : Layout A) (n i : ℕ) (l : List ℕ) → drop i (decode L n l) ≡ decode L (n - i) (drop (L.stride * i) l)
drop-decode L zero zero l = refl
drop-decode L zero (suc i) l = let z : 0 - suc i ≡ 0 = omega arith in rw z
drop-decode L (suc n) zero l = let z : suc n - 0 ≡ suc n = omega arith in rw (mul-zero, z)
drop-decode L (suc n) (suc i) l =
    let z : suc n - suc i ≡ n - i = omega arith in
    let e : L.stride * suc i ≡ L.stride + L.stride * i = omega arith in
    rw z (drop-decode L n i (drop L.stride l)
    ∙ ap (decode L (n - i)) (drop-drop (L.stride * i) L.stride l ∙ ap (λ (k : ℕ). drop k l) (sym e)))

-- numbers stored before m
pub drop-sets : (l : List ℕ) (i : ℕ) (vs : List ℕ) (m : ℕ) → i + length vs ≤ m → drop m (sets l i vs) ≡ drop m l
drop-sets l i [] m h = refl
drop-sets l i (v ∷ vs) m h = drop-sets (set l i v) (suc i) vs m (omega arith) ∙ drop-set-lt m l i v (omega arith)

module _ (place total : ℕ) (l m : List ℕ) (e : drop (2 * place) l ≡ drop (2 * place) m) where
  pub numbers-same : (i : ℕ) → place ≤ i → drop (2 * i) l ≡ drop (2 * i) m
  numbers-same i h =
      alike_further (2 * place) (2 * i) l m (omega arith) e

  pub steps-same : (i : ℕ) → place ≤ i → drop i (steps_of total l) ≡ drop i (steps_of total m)
  steps-same i h = drop-decode step_layout total i l ∙ ap (decode step_layout (total - i)) (numbers-same i h) ∙ sym (drop-decode step_layout total i m)

  pub lies_same : (r : Rule) → lies place total r ≡ true → walk_of (steps_of total l) r ≡ walk_of (steps_of total m) r
  lies_same r t = ap (take r.steps) (steps-same r.first (leb-true place r.first (and_true_l (leb place r.first) (leb (r.first + r.steps) total) t)))

  pub nodes_same : (rs : List Rule) → all (lies place total) rs ≡ true → (s : Step) → expand_node (steps_of total l) rs s ≡ expand_node (steps_of total m) rs s
  nodes_same = node-same (steps_of total l) (steps_of total m) (lies place total) lies_same
