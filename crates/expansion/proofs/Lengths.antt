-- Lengths of expansions, counted up to a cap: of a node by the lengths ahead, of a walk turn by turn, of all events from
-- the last one back.
use Prim.Native.Nat.{ℕ, suc, ◌+◌, ◌*◌, ◌≤◌, ◌<◌}
use mathlib.Core.Path.{◌≡◌, refl, sym, ap, ap₂, ◌∙◌}
use mathlib.Core.Bool.{Bool, true, false, cond}
use mathlib.Core.List.{List, [], ◌∷◌}
use native.Mathlib.Nat.{add-zero}
use native.Mathlib.Numerals.{add-one}
use native.Mathlib.Omega.{arith}
use lib.ListN.{length, take, drop, get_or, set, length-append, length-drop, length-set, drop_of_length-le}
use lib.Seq.{length-take-le, get_or-take, get_or-drop, drop-drop, drop-cons, drop-set-lt, take-set-lt, get_or-set_same, lt-length-set}
use Rattle.std.specs.Prelude.{Option, Some, None}
use Rattle.kit.specs.Loops.{find_from}
use Rattle.kit.proofs.Laws.{length-decode, left_none}
use Rattle.kit.proofs.Steps.{found_at}
use Rattle.events.specs.declared.Used.{Used}
use Rattle.events.specs.Events.{rule_layout, rules_of, steps_of, walk_of, event, walks_of}
use Rattle.events.specs.declared.Rule.{Rule}
use Rattle.events.specs.declared.Step.{Step}
use Rattle.events.proofs.Fields.{left-rule, step_at}
use Rattle.expansion.specs.Expansion.{expand_node, expand_walk, expand_from}
use Rattle.expansion.specs.Building.{Known, Measured}
use Rattle.expansion.specs.Filling.{toward, part_of, node_in, walk_in}
use Rattle.expansion.specs.Table.{capped, sizes_of, size_at}
use Rattle.expansion.proofs.Nodes.{is_forward, has_key_of}
use Rattle.expansion.proofs.Parts.{walk_next, walk_done}
use Rattle.events.proofs.Walks.{length-turn}

-- a rule that a lookup from `ahead` on finds is one of the n
pub found_below : (p : Rule → Bool) (n ahead k : ℕ) (l : List ℕ) → find_from p ahead (drop ahead (rules_of n l)) ≡ Some k → k < n
found_below p n ahead k l e =
    let f = found_at p ahead k (drop ahead (rules_of n l)) e in
    omega (arith, f.low, f.high, length-drop ahead (rules_of n l), length-decode rule_layout n l)

same_length : (forward : Bool) (ws : List Step) → length (toward forward ws) ≡ length ws
same_length true ws = refl
same_length false ws = length-turn ws

head_at : (i : ℕ) (ls : List ℕ) (x : ℕ) (tail : List ℕ) → drop i ls ≡ x ∷ tail → get_or ls i 0 ≡ x
head_at i ls x tail e = ap (λ (k : ℕ). get_or ls k 0) (sym (add-zero i)) ∙ sym (get_or-drop i ls 0 0) ∙ ap (λ (l : List ℕ). get_or l 0 0) e

tail_at : (i : ℕ) (ls : List ℕ) (x : ℕ) (tail : List ℕ) → drop i ls ≡ x ∷ tail → drop (i + 1) ls ≡ tail
tail_at i ls x tail e = sym (drop-drop 1 i ls) ∙ ap (drop 1) e

module _ (steps : List Step) (s : Step) where
  size-node : (i : ℕ) (ls : List ℕ) (rs : List Rule) → drop i ls ≡ sizes_of (expand_from steps rs) → size_at ls (find_from (has_key_of s) i rs) ≡ capped (length (expand_node steps rs s))
  size-node i ls [] e = refl
  size-node i ls (r ∷ rs) e = by (has_key_of s r) (size-node (i + 1) ls rs (tail_at i ls (capped (length (expand_walk steps rs (walk_of steps r)))) (sizes_of (expand_from steps rs)) e))
    where
      by : (b : Bool) → size_at ls (find_from (has_key_of s) (i + 1) rs) ≡ capped (length (expand_node steps rs s)) → size_at ls (cond b (Some i) (find_from (has_key_of s) (i + 1) rs)) ≡ capped (length (cond b (toward (is_forward s) (expand_walk steps rs (walk_of steps r))) (expand_node steps rs s)))
      by true go =
          head_at i ls (capped (length (expand_walk steps rs (walk_of steps r)))) (sizes_of (expand_from steps rs)) e
          ∙ ap capped (sym (same_length (is_forward s) (expand_walk steps rs (walk_of steps r))))
      by false go = go

size-take : (p : Rule → Bool) (n ahead : ℕ) (l ls : List ℕ) (f : Option ℕ) → find_from p ahead (drop ahead (rules_of n l)) ≡ f → size_at ls f ≡ size_at (take n ls) f
size-take p n ahead l ls (Some k) e = sym (get_or-take n ls k 0 (found_below p n ahead k l e))
size-take p n ahead l ls None e = refl

-- what the lookup of a node's length says, by the lengths that stand in lens
pub node-size : (rules steps : List ℕ) (c : Used) (lens : List ℕ) (ahead : ℕ) (s : Step) → Known rules steps c lens ahead → size_at lens (find_from (has_key_of s) ahead (drop ahead (rules_of c.rules rules))) ≡ capped (length (node_in rules steps c ahead s))
node-size rules steps c lens ahead s k =
    size-take (has_key_of s) c.rules ahead rules lens (find_from (has_key_of s) ahead (drop ahead (rules_of c.rules rules))) refl
    ∙ size-node (steps_of c.steps steps) s ahead (take c.rules lens) (drop ahead (rules_of c.rules rules)) k.sizes

module _ (rules steps : List ℕ) (c : Used) (ahead first n : ℕ) (inside : first + n ≤ c.steps) where
  -- a turn of the count over a walk
  pub walk_count : (k total size : ℕ) → k < n → size ≡ capped (length (node_in rules steps c ahead (step_at steps (first + k)))) → capped (total + length (walk_in rules steps c ahead (drop k (part_of steps c first n)))) ≡ capped (length (walk_in rules steps c ahead (part_of steps c first n))) → capped (capped (total + size) + length (walk_in rules steps c ahead (drop (k + 1) (part_of steps c first n)))) ≡ capped (length (walk_in rules steps c ahead (part_of steps c first n)))
  walk_count k total size h e go =
      let more = ap (λ (ws : List Step). length (walk_in rules steps c ahead ws)) (walk_next steps c first n inside true k h) in
      let two = length-append (node_in rules steps c ahead (step_at steps (first + k))) (walk_in rules steps c ahead (drop (k + 1) (part_of steps c first n))) in
      omega arith

  pub walk_counted : (k total : ℕ) → n ≤ k → total ≤ 262145 → capped (total + length (walk_in rules steps c ahead (drop k (part_of steps c first n)))) ≡ capped (length (walk_in rules steps c ahead (part_of steps c first n))) → total ≡ capped (length (walk_in rules steps c ahead (part_of steps c first n)))
  walk_counted k total h small go =
      let none = ap (λ (ws : List Step). length (walk_in rules steps c ahead ws)) (walk_done steps c first n inside true k h) in
      omega arith

-- the i-th of n numbers is stored, those after it stay
pub store_at : (n i : ℕ) (ls : List ℕ) (x : ℕ) → i < n → n ≤ length ls → drop i (take n (set ls i x)) ≡ x ∷ drop (i + 1) (take n ls)
store_at n i ls x h k =
    let m : i < length (take n ls) = omega (arith, length-take-le n ls k) in
    ap (drop i) (take-set-lt n ls i x h)
    ∙ drop-cons (set (take n ls) i x) i 0 (lt-length-set (take n ls) i x m)
    ∙ ap₂ ◌∷◌ (get_or-set_same (take n ls) i x 0 m) (drop-set-lt (suc i) (take n ls) i x (omega arith) ∙ ap (λ (j : ℕ). drop j (take n ls)) (sym (add-one i)))

module _ (rules steps : List ℕ) (c : Used) where
  -- the events from i on, when rule i is taken
  pub event-next : (i : ℕ) → i < c.rules → expand_from (steps_of c.steps steps) (drop i (rules_of c.rules rules)) ≡ event (get_or rules (4 * i) 0) (get_or rules (4 * i + 1) 0) (walk_in rules steps c (i + 1) (part_of steps c (get_or rules (4 * i + 2) 0) (get_or rules (4 * i + 3) 0))) ∷ expand_from (steps_of c.steps steps) (drop (i + 1) (rules_of c.rules rules))
  event-next i h = ap (expand_from (steps_of c.steps steps)) (left-rule c.rules i rules h)

  pub event_none : (i : ℕ) → c.rules ≤ i → expand_from (steps_of c.steps steps) (drop i (rules_of c.rules rules)) ≡ []
  event_none i h = ap (expand_from (steps_of c.steps steps)) (left_none rule_layout c.rules i rules h)

  -- before event i is measured, those from i on are
  pub record Measuring (lens : List ℕ) (total i : ℕ) : Type 0 where
    pub low : i ≤ c.rules
    pub room : c.rules ≤ length lens
    pub sizes : drop i (take c.rules lens) ≡ sizes_of (expand_from (steps_of c.steps steps) (drop i (rules_of c.rules rules)))
    pub sum : total ≡ capped (length (walks_of (expand_from (steps_of c.steps steps) (drop i (rules_of c.rules rules)))))

  pub measuring : (lens : List ℕ) → c.rules ≤ length lens → Measuring lens 0 c.rules
  measuring lens h =
      let none = event_none c.rules (omega arith) in
      record {
        low = omega arith;
        room = h;
        sizes = rw none (drop_of_length-le (take c.rules lens) {i = c.rules} (omega (arith, length-take-le c.rules lens h)));
        sum = rw none;
      }

  module _ (lens : List ℕ) (total i j : ℕ) (m : Measuring lens total i) (e : j + 1 ≡ i) where
    pub measure_asks : 4 * c.rules ≤ length rules → 2 * c.steps ≤ length steps → Known rules steps c lens (j + 1)
    measure_asks room for-steps =
        rw e record { rule_room = room; step_room = for-steps; len_room = m.room; ahead_in = m.low; sizes = m.sizes }

    pub measure_leaves : (x : ℕ) → x ≡ capped (length (walk_in rules steps c (j + 1) (part_of steps c (get_or rules (4 * j + 2) 0) (get_or rules (4 * j + 3) 0)))) → Measuring (set lens j x) (capped (total + x)) j
    measure_leaves x s =
        let h : j < c.rules = omega (arith, m.low) in
        let w = walk_in rules steps c (j + 1) (part_of steps c (get_or rules (4 * j + 2) 0) (get_or rules (4 * j + 3) 0)) in
        let rest = expand_from (steps_of c.steps steps) (drop (j + 1) (rules_of c.rules rules)) in
        let now : drop (j + 1) (take c.rules lens) ≡ sizes_of rest = rw e m.sizes in
        let both = length-append w (walks_of rest) in
        let sum : total ≡ capped (length (walks_of rest)) = rw e m.sum in
        record {
          low = omega arith;
          room = omega (arith, m.room, length-set lens j x);
          sizes = rw (event-next j h) (store_at c.rules j lens x h m.room ∙ ap₂ ◌∷◌ s now);
          sum = rw (event-next j h) (omega arith);
        }

  pub measured : (lens : List ℕ) (total i : ℕ) → i ≤ 0 → Measuring lens total i → Measured rules steps c lens total
  measured lens total i h m =
      let z : i ≡ 0 = omega arith in
      record { sizes = rw z at m.sizes; all = rw z at m.sum }
