-- A walk in the table's steps, node by node, forward or turned; as a loop reads it.
use Prim.Native.Nat.{ℕ, ◌+◌, ◌-◌, ◌*◌, ◌≤◌, ◌<◌}
use mathlib.Core.Path.{◌≡◌, sym, ap, ap₂, ◌∙◌}
use mathlib.Core.Bool.{Bool, true, false, cond}
use mathlib.Core.List.{List, [], ◌∷◌}
use native.Mathlib.Numerals.{add-one}
use native.Mathlib.Omega.{arith}
use lib.ListN.{length, drop, get_or, length-drop, drop_of_length-le}
use lib.Seq.{length-take-le, drop-cons, get_or-take, get_or-drop}
use Rattle.kit.proofs.Laws.{length-decode, decode-at}
use Rattle.handle.specs.declared.Handle.{Handle}
use Rattle.handle.specs.Handle.{flip}
use Rattle.events.specs.declared.Used.{Used}
use Rattle.events.specs.Events.{step, step_to, step_layout, steps_of, unpack_step}
use Rattle.events.specs.declared.Step.{Step}
use Rattle.events.proofs.Fields.{step_at, left_step, step_at_lem}
use Rattle.expansion.specs.Filling.{toward, part_of}
use Rattle.expansion.proofs.Places.{numbers-same}
use Rattle.expansion.proofs.Turn.{flip_step, get_d_turn}
use Rattle.events.proofs.Walks.{length-turn}

-- a step that lies where nothing was written
pub step_same : (place : ℕ) (l m : List ℕ) (i : ℕ) → drop (2 * place) l ≡ drop (2 * place) m → place ≤ i → step_at l i ≡ step_at m i
step_same place l m i e h = sym (step_at_lem l i) ∙ ap unpack_step (numbers-same place 0 l m e i h) ∙ step_at_lem m i

-- a step as a walk has it that goes forward or is turned
abbrev pub toward_step : Bool → Step → Step
toward_step forward s = step_to (cond forward s.node (flip s.node)) s.len

module _ (steps : List ℕ) (c : Used) (first n : ℕ) (inside : first + n ≤ c.steps) where
  length_part : length (part_of steps c first n) ≡ n
  length_part =
      let e : length (drop first (steps_of c.steps steps)) ≡ c.steps - first = length-drop first (steps_of c.steps steps) ∙ ap (λ (x : ℕ). x - first) (length-decode step_layout c.steps steps) in
      length-take-le n (drop first (steps_of c.steps steps)) (omega arith)

  length-toward : (forward : Bool) → length (toward forward (part_of steps c first n)) ≡ n
  length-toward true = length_part
  length-toward false = length-turn (part_of steps c first n) ∙ length_part

  part_at : (i : ℕ) (d : Step) → i < n → get_or (part_of steps c first n) i d ≡ step_at steps (first + i)
  part_at i d h =
      let k : first + i < c.steps = omega arith in
      get_or-take n (drop first (steps_of c.steps steps)) i d h ∙ get_or-drop first (steps_of c.steps steps) i d
      ∙ decode-at step_layout c.steps (first + i) steps d k ∙ step_at_lem steps (first + i)

  toward-at : (forward : Bool) (k : ℕ) (d : Step) → k < n → get_or (toward forward (part_of steps c first n)) k d ≡ toward_step forward (step_at steps (first + cond forward k (n - 1 - k)))
  toward-at true k d h = part_at k d h
  toward-at false k d h =
      let e = length_part in
      get_d_turn (part_of steps c first n) k d (omega arith)
      ∙ ap (λ (x : ℕ). flip_step (get_or (part_of steps c first n) (x - 1 - k) d)) e
      ∙ ap flip_step (part_at (n - 1 - k) d (omega arith))

  pub walk_next : (forward : Bool) (k : ℕ) → k < n → drop k (toward forward (part_of steps c first n)) ≡ toward_step forward (step_at steps (first + cond forward k (n - 1 - k))) ∷ drop (k + 1) (toward forward (part_of steps c first n))
  walk_next forward k h =
      let d = step_at steps 0 in
      let m : k < length (toward forward (part_of steps c first n)) = omega (arith, length-toward forward) in
      drop-cons (toward forward (part_of steps c first n)) k d m
      ∙ ap₂ (λ (s : Step) (i : ℕ). s ∷ drop i (toward forward (part_of steps c first n))) (toward-at forward k d h) (sym (add-one k))

  pub walk_done : (forward : Bool) (k : ℕ) → n ≤ k → drop k (toward forward (part_of steps c first n)) ≡ []
  walk_done forward k h = drop_of_length-le (toward forward (part_of steps c first n)) {i = k} (omega (arith, length-toward forward))

pub nth_below : (forward : Bool) (n k p : ℕ) → k < n → p ≡ cond forward k (n - 1 - k) → p < n
nth_below true n k p h e = omega arith
nth_below false n k p h e = omega arith

-- what a loop over the walk reads at its k-th turn, from steps in which nothing was written at `place` or after it
pub walk-read :
    (steps now : List ℕ) (c : Used) (first n : ℕ) (forward : Bool) (k place p : ℕ) (node : Handle) →
    first + n ≤ c.steps → k < n → place ≤ first → drop (2 * place) now ≡ drop (2 * place) steps → p ≡ cond forward k (n - 1 - k) → node ≡ cond forward (step_at now (first + p)).node (flip (step_at now (first + p)).node) →
    drop k (toward forward (part_of steps c first n)) ≡ step_to node (step_at now (first + p)).len ∷ drop (k + 1) (toward forward (part_of steps c first n))
walk-read steps now c first n forward k place p node inside h low same at turned =
    walk_next steps c first n inside forward k h
    ∙ ap (λ (i : ℕ). toward_step forward (step_at steps (first + i)) ∷ drop (k + 1) (toward forward (part_of steps c first n))) (sym at)
    ∙ ap (λ (s : Step). toward_step forward s ∷ drop (k + 1) (toward forward (part_of steps c first n))) (sym (step_same place now steps (first + p) same (omega arith)))
    ∙ ap (λ (u : Handle). step_to u (step_at now (first + p)).len ∷ drop (k + 1) (toward forward (part_of steps c first n))) (sym turned)

-- steps of a list from `first` on, step by step
drop-step : (l : List ℕ) (first k : ℕ) → step_at (drop (2 * first) l) k ≡ step_at l (first + k)
drop-step l first k =
    let e : 2 * first + 2 * k ≡ 2 * (first + k) = omega arith in
    let f : 2 * first + (2 * k + 1) ≡ 2 * (first + k) + 1 = omega arith in
    ap₂ step (get_or-drop (2 * first) l (2 * k) 0 ∙ ap (λ (i : ℕ). get_or l i 0) e) (get_or-drop (2 * first) l (2 * k + 1) 0 ∙ ap (λ (i : ℕ). get_or l i 0) f)

pub steps_next : (n first k : ℕ) (l : List ℕ) → k < n → drop k (steps_of n (drop (2 * first) l)) ≡ step_at l (first + k) ∷ drop (k + 1) (steps_of n (drop (2 * first) l))
steps_next n first k l h = left_step n k (drop (2 * first) l) h ∙ ap (λ (s : Step). s ∷ drop (k + 1) (steps_of n (drop (2 * first) l))) (drop-step l first k)
