-- Conditions 1 to 4, rule by rule and step by step: the turns of the loops that test them.
use Prim.Native.Nat.{ℕ, ◌+◌, ◌-◌, ◌*◌, ◌≤◌, ◌<◌}
use mathlib.Core.Path.{◌≡◌, refl, sym, ap, ap₂, ◌∙◌}
use mathlib.Core.Bool.{Bool, true, false, cond, not, ◌&&◌}
use mathlib.Core.List.{List, [], ◌∷◌, ◌++◌, map}
use native.Mathlib.Nat.{add-zero}
use native.Mathlib.Omega.{arith}
use borrow.Author.Tests.{eq-eqb, ne_eqb, eqb-true}
use lib.Dec.{eqb}
use lib.ListN.{length, take, drop, get_or, length-drop, length-append, take-append-drop, drop_of_length-le}
use lib.Seq.{length-take-le, drop-drop}
use Rattle.kit.specs.Loops.{all, sum}
use Rattle.kit.proofs.Bools.{tests, not_true_false, same_test, eqb_sym}
use Rattle.kit.proofs.Laws.{left_none}
use Rattle.kit.proofs.Steps.{left_at, part_cons, part_end, sum_more, sum_end}
use Rattle.kit.proofs.Meaning.{none_mem, none_of}
use Rattle.letters.specs.Letters.{same_letter}
use Rattle.letters.specs.Sequences.{same_spelling}
use Rattle.letters.proofs.Sequences.{same-append, same_length}
use Rattle.store.specs.declared.Counts.{Counts}
use Rattle.store.specs.Graph.{Graph, handle, graph_of}
use Rattle.store.specs.declared.Node.{Node}
use Rattle.store.specs.Views.{named, stored, live_here, live_node, spell}
use Rattle.events.specs.Events.{rules_of, steps_of, step_layout, rule_layout, walk_of}
use Rattle.events.specs.declared.Rule.{Rule}
use Rattle.events.specs.declared.Step.{Step}
use Rattle.events.proofs.Fields.{rule_at, step_at, left-rule, left_step}
use Rattle.events.proofs.Order.{walk_is}
use Rattle.spelling.specs.Spelling.{spell_walk}
use Rattle.scanning.specs.declared.Verdict.{Verdict}
use Rattle.scanning.specs.Rules.{verdict, or_then, unless, step_lives, length_true, follows, step_fault, steps_fault, has_steps, lengths_sum, spells_key, rule_fault, rules_fault}

-- a number with its places, where it is one; and a fault after it
abbrev pub placed : ℕ → ℕ → ℕ → Verdict
placed n i j = cond (eqb n 0) (verdict 0 0 0) (verdict n i j)

module _ (n i j : ℕ) where
  pub placed_none : n ≡ 0 → placed n i j ≡ verdict 0 0 0
  placed_none e = rw (eq-eqb n 0 e)

  pub placed_some : (n ≡ 0 → ⊥) → placed n i j ≡ verdict n i j
  placed_some z = rw (ne_eqb n 0 z)

-- the fault of a rule with or without steps, of its steps, of its key, and of the rules after it
module _ (b : Bool) (i : ℕ) (s k w : Verdict) where
  abbrev first_of : Verdict
  first_of = or_then (or_then (unless b 20 i 0) (or_then s k)) w

  at-rule : b ≡ false → first_of ≡ verdict 20 i 0
  at-rule e = rw e

  module _ (e : b ≡ true) (n j : ℕ) where
    at-step : s ≡ verdict n i j → (n ≡ 0 → ⊥) → first_of ≡ verdict n i j
    at-step f z = let q : eqb n 0 ≡ false = ne_eqb n 0 z in rw (e, f, q, q)

    at_key : s ≡ verdict 0 0 0 → k ≡ verdict n i j → (n ≡ 0 → ⊥) → first_of ≡ verdict n i j
    at_key f g z = let q : eqb n 0 ≡ false = ne_eqb n 0 z in rw (e, f, g, q)

  nowhere : b ≡ true → s ≡ verdict 0 0 0 → k ≡ verdict 0 0 0 → first_of ≡ w
  nowhere e f g = rw (e, f, g)

-- a node that is not stored is not live
pub absent_dead : (id : ℕ) (rs : List Node) → stored id rs ≡ false → live_node id rs ≡ false
absent_dead id rs e = none_of (live_here id) rs (λ r m. rw (none_mem (named id) e m))

-- a step's number, by its tests, and the fault with its places
module _ (new : Graph) (before : List Step) (s : Step) where
  pub not_live : step_lives new s ≡ false → 21 ≡ (step_fault new 0 0 before s).number
  not_live e = rw e

  module _ (e : step_lives new s ≡ true) where
    pub not_its_length : length_true new s ≡ false → 22 ≡ (step_fault new 0 0 before s).number
    not_its_length f = rw (e, f)

    module _ (f : length_true new s ≡ true) where
      pub no_link : follows new before s ≡ false → 23 ≡ (step_fault new 0 0 before s).number
      no_link t = rw (e, f, t)

      pub step-passes : follows new before s ≡ true → 0 ≡ (step_fault new 0 0 before s).number
      step-passes t = rw (e, f, t)

  pub step-placed : (i j : ℕ) → step_fault new i j before s ≡ placed (step_fault new 0 0 before s).number i j
  step-placed i j = by (step_lives new s) (length_true new s) (follows new before s)
    where
      by : (a b e : Bool) → or_then (unless a 21 i j) (or_then (unless b 22 i j) (unless e 23 i j)) ≡ placed (or_then (unless a 21 0 0) (or_then (unless b 22 0 0) (unless e 23 0 0))).number i j
      by true true true = refl
      by true true false = refl
      by true false e = refl
      by false b e = refl

-- a step's conditions read no letters
pub step_text_lem : (nodes letters links : List ℕ) (d : Counts) (before : List Step) (s : Step) → step_fault (graph_of nodes [] links d) 0 0 before s ≡ step_fault (graph_of nodes letters links d) 0 0 before s
step_text_lem nodes letters links d [] s = refl
step_text_lem nodes letters links d (b ∷ bs) s = refl

-- the step before step j of a walk, which is at place `at`
abbrev pub step_before : List ℕ → ℕ → ℕ → List Step
step_before l at j = cond (eqb j 0) [] (step_at l (at - 1) ∷ [])

pub next-before : (l : List ℕ) (first j : ℕ) → step_before l (first + (j + 1)) (j + 1) ≡ step_at l (first + j) ∷ []
next-before l first j =
    let e : first + (j + 1) - 1 ≡ first + j = omega arith in
    rw (ne_eqb (j + 1) 0 (λ z. omega arith), e)

-- what is left to test of a rule's steps, from step j on; the walk is `walk` steps from the step `first` on
abbrev pub steps_left : Graph → List ℕ → ℕ → ℕ → ℕ → ℕ → Verdict
steps_left new l i first walk j = steps_fault new i j (step_before l (first + j) j) (drop (first + j) (steps_of (first + walk) l))

pub steps_all : (new : Graph) (l : List ℕ) (i total : ℕ) (r : Rule) → r.first + r.steps ≤ total → steps_left new l i r.first r.steps 0 ≡ steps_fault new i 0 [] (walk_of (steps_of total l) r)
steps_all new l i total r h =
    ap (λ (k : ℕ). steps_fault new i 0 [] (drop k (steps_of (r.first + r.steps) l))) (add-zero r.first)
    ∙ ap (steps_fault new i 0 []) (sym (walk_is total l r h))

module _ (new : Graph) (l : List ℕ) (i first walk j : ℕ) where
  pub steps-done : walk ≤ j → steps_left new l i first walk j ≡ verdict 0 0 0
  steps-done h = ap (steps_fault new i j (step_before l (first + j) j)) (left_none step_layout (first + walk) (first + j) l (omega arith))

  module _ (h : j < walk) (n : ℕ) (e : n ≡ (step_fault new 0 0 (step_before l (first + j) j) (step_at l (first + j))).number) where
    this-step : steps_left new l i first walk j ≡ or_then (placed n i j) (steps_left new l i first walk (j + 1))
    this-step =
        let k : first + j + 1 ≡ first + (j + 1) = omega arith in
        ap (steps_fault new i j (step_before l (first + j) j)) (left_step (first + walk) (first + j) l (omega arith))
        ∙ ap₂ or_then
        (step-placed new (step_before l (first + j) j) (step_at l (first + j)) i j ∙ ap (λ (m : ℕ). placed m i j) (sym e))
        (ap₂ (λ (b : List Step) (m : ℕ). steps_fault new i (j + 1) b (drop m (steps_of (first + walk) l))) (sym (next-before l first j)) k)

    pub step-next : n ≡ 0 → steps_left new l i first walk j ≡ steps_left new l i first walk (j + 1)
    step-next z = this-step ∙ ap (λ (v : Verdict). or_then v (steps_left new l i first walk (j + 1))) (placed_none n i j z)

    pub step_stops : (n ≡ 0 → ⊥) → steps_left new l i first walk j ≡ verdict n i j
    step_stops z =
        this-step ∙ ap (λ (v : Verdict). or_then v (steps_left new l i first walk (j + 1))) (placed_some n i j z)
        ∙ rw (ne_eqb n 0 z)

-- a key's number, by its tests, and the fault with its places
module _ (old new : Graph) (ss : List Step) (r : Rule) where
  abbrev pub key_number : ℕ
  key_number = (or_then (unless (lengths_sum ss r) 24 0 0) (unless (spells_key old new ss r) 25 0 0)).number

  pub other-sum : lengths_sum ss r ≡ false → 24 ≡ key_number
  other-sum e = sym (ap (λ (b : Bool). (or_then (unless b 24 0 0) (unless (spells_key old new ss r) 25 0 0)).number) e)

  module _ (e : lengths_sum ss r ≡ true) where
    pub other-spelling : spells_key old new ss r ≡ false → 25 ≡ key_number
    other-spelling f = sym (ap₂ (λ (a b : Bool). (or_then (unless a 24 0 0) (unless b 25 0 0)).number) e f)

    pub key_passes : spells_key old new ss r ≡ true → 0 ≡ key_number
    key_passes f = sym (ap₂ (λ (a b : Bool). (or_then (unless a 24 0 0) (unless b 25 0 0)).number) e f)

  key_placed : (i : ℕ) → or_then (unless (lengths_sum ss r) 24 i 0) (unless (spells_key old new ss r) 25 i 0) ≡ placed key_number i 0
  key_placed i = by (lengths_sum ss r) (spells_key old new ss r)
    where
      by : (a b : Bool) → or_then (unless a 24 i 0) (unless b 25 i 0) ≡ placed (or_then (unless a 24 0 0) (unless b 25 0 0)).number i 0
      by true true = refl
      by true false = refl
      by false b = refl

-- what is left to test of the rules, from rule i on
module _ (old new : Graph) (ss : List Step) (l : List ℕ) (count i : ℕ) where
  abbrev pub rules_left : Verdict
  rules_left = rules_fault old new ss i (drop i (rules_of count l))

  pub rules-done : count ≤ i → rules_left ≡ verdict 0 0 0
  rules-done h = ap (rules_fault old new ss i) (left_none rule_layout count i l h)

  module _ (h : i < count) where
    abbrev r : Rule
    r = rule_at l i

    abbrev steps_fault_lem : Verdict
    steps_fault_lem = steps_fault new i 0 [] (walk_of ss r)

    abbrev key_fault : Verdict
    key_fault = or_then (unless (lengths_sum ss r) 24 i 0) (unless (spells_key old new ss r) 25 i 0)

    abbrev later : Verdict
    later = rules_fault old new ss (i + 1) (drop (i + 1) (rules_of count l))

    this-rule : rules_left ≡ or_then (or_then (unless (has_steps r) 20 i 0) (or_then steps_fault_lem key_fault)) later
    this-rule = ap (rules_fault old new ss i) (left-rule count i l h)

    pub rule-empty : r.steps ≡ 0 → rules_left ≡ verdict 20 i 0
    rule-empty z = this-rule ∙ at-rule (has_steps r) i steps_fault_lem key_fault later (ap not (eq-eqb r.steps 0 z))

    module _ (z : r.steps ≡ 0 → ⊥) where
      some : has_steps r ≡ true
      some = ap not (ne_eqb r.steps 0 z)

      pub rule-step : (n j : ℕ) → steps_fault_lem ≡ verdict n i j → (n ≡ 0 → ⊥) → rules_left ≡ verdict n i j
      rule-step n j f y = this-rule ∙ at-step (has_steps r) i steps_fault_lem key_fault later some n j f y

      module _ (f : steps_fault_lem ≡ verdict 0 0 0) (n : ℕ) (e : n ≡ key_number old new ss r) where
        pub rule_key : (n ≡ 0 → ⊥) → rules_left ≡ verdict n i 0
        rule_key y =
            this-rule
            ∙ at_key (has_steps r) i steps_fault_lem key_fault later some n 0 f (key_placed old new ss r i ∙ ap (λ (m : ℕ). placed m i 0) (sym e) ∙ placed_some n i 0 y) y

        pub rule-next : n ≡ 0 → rules_left ≡ later
        rule-next y =
            this-rule
            ∙ nowhere (has_steps r) i steps_fault_lem key_fault later some f (key_placed old new ss r i ∙ ap (λ (m : ℕ). placed m i 0) (sym e) ∙ placed_none n i 0 y)

-- no condition reads the old graph's links
pub rules-old : (nodes letters links : List ℕ) (c : Counts) (new : Graph) (ss : List Step) (i : ℕ) (rs : List Rule) → rules_fault (graph_of nodes letters [] c) new ss i rs ≡ rules_fault (graph_of nodes letters links c) new ss i rs
rules-old nodes letters links c new ss i [] = refl
rules-old nodes letters links c new ss i (r ∷ rs) =
    ap (or_then (rule_fault (graph_of nodes letters links c) new ss i r)) (rules-old nodes letters links c new ss (i + 1) rs)

-- recorded lengths, one taken off after another
abbrev pub recorded : List Step → ℕ
recorded ss = sum (λ s. s.len) ss

module _ (l : List ℕ) (end j left : ℕ) where
  pub sum_done : end ≤ j → eqb left 0 ≡ eqb (recorded (drop j (steps_of end l))) left
  sum_done h = eqb_sym left 0 ∙ ap (λ (n : ℕ). eqb n left) (sym (sum_end (λ s. s.len) (left_none step_layout end j l h)))

  module _ (h : j < end) where
    one : recorded (drop j (steps_of end l)) ≡ get_or l (2 * j + 1) 0 + recorded (drop (j + 1) (steps_of end l))
    one = sum_more (λ s. s.len) (left_step end j l h)

    pub sum_over : left < get_or l (2 * j + 1) 0 → eqb (recorded (drop j (steps_of end l))) left ≡ false
    sum_over k = ne_eqb (recorded (drop j (steps_of end l))) left (λ e. omega (arith, one))

    pub sum-next : get_or l (2 * j + 1) 0 ≤ left → eqb (recorded (drop j (steps_of end l))) left ≡ eqb (recorded (drop (j + 1) (steps_of end l))) (left - get_or l (2 * j + 1) 0)
    sum-next k =
        let here : ℕ = recorded (drop j (steps_of end l)) in
        let next : ℕ = recorded (drop (j + 1) (steps_of end l)) in
        let rest : ℕ = left - get_or l (2 * j + 1) 0 in
        same_test (eqb here left) (eqb next rest)
        (λ t. eq-eqb next rest (omega (arith, one, eqb-true here left t)))
        (λ t. eq-eqb here left (omega (arith, one, eqb-true next rest t)))

-- the letters of b against n of a's from `off` on, one by one
module _ (a b : List ℕ) (off n i : ℕ) (fits : off + n ≤ length a) (size : length b ≡ n) where
  pub part-done : n ≤ i → same_spelling (drop i (take n (drop off a))) (drop i b) ≡ true
  part-done h = rw (part_end a off n i h, drop_of_length-le b {i = i} (omega arith))

  module _ (h : i < n) where
    pub part_hit : same_letter (get_or a (off + i) 0) (get_or b i 0) ≡ true → same_spelling (drop i (take n (drop off a))) (drop i b) ≡ same_spelling (drop (i + 1) (take n (drop off a))) (drop (i + 1) b)
    part_hit t = rw (part_cons a off n i fits h, left_at b i 0 (omega arith), t)

    pub part_miss : same_letter (get_or a (off + i) 0) (get_or b i 0) ≡ false → same_spelling (drop i (take n (drop off a))) (drop i b) ≡ false
    part_miss t = rw (part_cons a off n i fits h, left_at b i 0 (omega arith), t)

-- what the steps from j to `end` spell
abbrev pub spelled : Graph → List ℕ → ℕ → ℕ → List ℕ
spelled g l end j = spell_walk g (map (λ s. s.node) (drop j (steps_of end l)))

-- a walk's letters against a's, step by step; b is what step j reads
module _ (g : Graph) (a l : List ℕ) (end j off : ℕ) where
  pub walk_done : end ≤ j → off ≤ length a → eqb off (length a) ≡ same_spelling (drop off a) (spelled g l end j)
  walk_done h k =
      let none : spelled g l end j ≡ [] = rw (left_none step_layout end j l h) in
      rw none
      (same_test (eqb off (length a)) (same_spelling (drop off a) [])
      (λ t. rw (drop_of_length-le a {i = off} (omega (arith, eqb-true off (length a) t))))
      (λ t. eq-eqb off (length a) (omega (arith, same_length (drop off a) [] t, length-drop off a))))

  module _ (h : j < end) (b : List ℕ) (n : ℕ) (e : b ≡ spell g (handle (get_or l (2 * j) 0))) (size : length b ≡ n) where
    this : spelled g l end j ≡ b ++ spelled g l end (j + 1)
    this = rw (e, left_step end j l h)

    pub walk_short : length a - off < n → same_spelling (drop off a) (spelled g l end j) ≡ false
    walk_short k =
        not_true_false _
        (λ t. omega (arith, same_length (drop off a) (spelled g l end j) t, length-drop off a, ap length this, length-append b (spelled g l end (j + 1))))

    module _ (k : off + n ≤ length a) where
      parted : same_spelling (drop off a) (spelled g l end j) ≡ (same_spelling (take n (drop off a)) b && same_spelling (drop (off + n) a) (spelled g l end (j + 1)))
      parted =
          let m : length (take n (drop off a)) ≡ length b = length-take-le n (drop off a) (omega (arith, length-drop off a)) ∙ sym size in
          ap₂ same_spelling (sym (take-append-drop n (drop off a))) this
          ∙ same-append (take n (drop off a)) b (drop n (drop off a)) (spelled g l end (j + 1)) m
          ∙ rw drop-drop

      pub walk_hit : same_spelling (take n (drop off a)) b ≡ true → same_spelling (drop off a) (spelled g l end j) ≡ same_spelling (drop (off + n) a) (spelled g l end (j + 1))
      walk_hit t = parted ∙ rw t

      pub walk_miss : same_spelling (take n (drop off a)) b ≡ false → same_spelling (drop off a) (spelled g l end j) ≡ false
      walk_miss t = parted ∙ rw t

-- no fault: each rule has a step
module _ (old new : Graph) (steps : List Step) where
  pub scan_steps : (i : ℕ) (rs : List Rule) → (rules_fault old new steps i rs).number ≡ 0 → all has_steps rs ≡ true
  scan_steps i [] e = refl
  scan_steps i (r ∷ rs) e = by (has_steps r) refl e (scan_steps (i + 1) rs)
    where
      rest : Verdict
      rest = or_then (steps_fault new i 0 [] (walk_of steps r)) (or_then (unless (lengths_sum steps r) 24 i 0) (unless (spells_key old new steps r) 25 i 0))

      later : (v w : Verdict) → (or_then v w).number ≡ 0 → w.number ≡ 0
      later v w z = by (eqb v.number 0) refl z
        where
          by : (b : Bool) → eqb v.number 0 ≡ b → (cond b w v).number ≡ 0 → w.number ≡ 0
          by true q k = k
          by false q k = absurd (omega (arith, tests))

      by : (b : Bool) → has_steps r ≡ b → (or_then (or_then (unless b 20 i 0) rest) (rules_fault old new steps (i + 1) rs)).number ≡ 0 → ((rules_fault old new steps (i + 1) rs).number ≡ 0 → all has_steps rs ≡ true) → (b && all has_steps rs) ≡ true
      by true q z go = go (later rest (rules_fault old new steps (i + 1) rs) z)
      by false q z go = absurd (omega arith)
