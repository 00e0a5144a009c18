-- The table's steps while they are filled from the last event back.
use Prim.Native.Nat.{ℕ, suc, ◌+◌, ◌-◌, ◌*◌, ◌≤◌, ◌<◌}
use mathlib.Core.Path.{◌≡◌, refl, sym, ap, ap₂, ◌∙◌}
use mathlib.Core.List.{List, [], ◌∷◌, ◌++◌, append_assoc}
use native.Mathlib.Omega.{arith}
use lib.ListN.{length, take, drop, get_or, set, length-append}
use lib.Seq.{sets, sets-eq, length-sets, length-take-le, drop_at}
use Rattle.kit.specs.Layout.{decode, encode}
use Rattle.kit.proofs.Laws.{length-encode, decode-take, decode-encode, encode-append}
use Rattle.kit.proofs.Writes.{sets-append, set_past}
use Rattle.events.specs.declared.Used.{Used}
use Rattle.events.specs.Events.{Event, step_layout, rules_of, steps_of, walks_of, rules_from}
use Rattle.events.specs.declared.Rule.{Rule}
use Rattle.events.specs.declared.Step.{Step}
use Rattle.events.proofs.Fields.{left-rule}
use Rattle.events.proofs.Order.{table-inside}
use Rattle.events.proofs.Says.{table-room}
use Rattle.expansion.specs.Building.{Fillable}
use Rattle.expansion.specs.Expansion.{expand_walk, expand_from}
use Rattle.expansion.specs.Filling.{part_of, event_walk, walk_in, Ready}
use Rattle.expansion.specs.Table.{events_in}
use Rattle.expansion.proofs.Lengths.{event-next, event_none}
use Rattle.expansion.proofs.Order.{order_from, memo_walk}
use Rattle.expansion.proofs.Places.{drop-decode}
use Rattle.expansion.proofs.Tables.{rules_from_lem, walks-part, lies_from}

sets_past : (l : List ℕ) (i : ℕ) (a : List ℕ) (k : ℕ) (b : List ℕ) → i + length a ≤ k → sets (sets l k b) i a ≡ sets (sets l i a) k b
sets_past l i a k [] h = refl
sets_past l i a k (x ∷ b) h = sets_past (set l k x) i a (suc k) b (omega arith) ∙ ap (λ (m : List ℕ). sets m (suc k) b) (set_past l i a k x h)

-- a run of stores just before another
sets-before : (l : List ℕ) (i : ℕ) (a : List ℕ) (k : ℕ) (b : List ℕ) → i + length a ≡ k → sets (sets l k b) i a ≡ sets l i (a ++ b)
sets-before l i a k b e = sets_past l i a k b (omega arith) ∙ ap (λ (x : ℕ). sets (sets l i a) x b) (sym e) ∙ sym (sets-append l i a b)

-- steps that were written are read back
read_back : (out : List ℕ) (first total : ℕ) (xs : List Step) → first + length xs ≡ total → 2 * total ≤ length out → drop first (steps_of total (sets out (2 * first) (encode step_layout xs))) ≡ xs
read_back out first total xs e h =
    let vs = encode step_layout xs in
    let n : length vs ≡ 2 * length xs = length-encode step_layout xs in
    let k : total - first ≡ length xs = omega arith in
    drop-decode step_layout total first (sets out (2 * first) vs)
    ∙ ap (λ (l : List ℕ). decode step_layout (total - first) (drop (2 * first) l)) (sets-eq vs out (2 * first) (omega arith) ∙ append_assoc (take (2 * first) out) vs (drop (2 * first + length vs) out))
    ∙ ap (decode step_layout (total - first)) (drop_at (take (2 * first) out) (vs ++ drop (2 * first + length vs) out) (2 * first) (length-take-le (2 * first) out (omega arith)))
    ∙ ap (λ (x : ℕ). decode step_layout x (vs ++ drop (2 * first + length vs) out)) k
    ∙ decode-encode step_layout xs (drop (2 * first + length vs) out)

-- an event's walk, read from the numbers of its rule
event_walk_lem : (rules steps : List ℕ) (c : Used) (i : ℕ) → get_or rules (4 * i + 2) 0 + get_or rules (4 * i + 3) 0 ≤ c.steps → part_of steps c (get_or rules (4 * i + 2) 0) (get_or rules (4 * i + 3) 0) ≡ event_walk rules steps i
event_walk_lem rules steps c i h =
    let first = get_or rules (4 * i + 2) 0 in
    let n = get_or rules (4 * i + 3) 0 in
    ap (take n) (drop-decode step_layout c.steps first steps) ∙ decode-take step_layout n (c.steps - first) (drop (2 * first) steps) (omega arith)

head_first : (x y : Rule) (a b : List Rule) → x ∷ a ≡ y ∷ b → x.first ≡ y.first
head_first x y a b e = let same : x ≡ y = cc in ap (λ (r : Rule). r.first) same

module _ (rules steps : List ℕ) (c : Used) (table out : List ℕ) (d : Used) where
  -- the events from i on, and where their walks start
  abbrev later : ℕ → List Event
  later i = expand_from (steps_of c.steps steps) (drop i (rules_of c.rules rules))

  abbrev start : ℕ → ℕ
  start i = d.steps - length (walks_of (later i))

  -- the walks of the events from i on stand in the table
  pub record Filled (now : List ℕ) (i : ℕ) : Type 0 where
    pub low : i ≤ c.rules
    pub numbers : now ≡ sets out (2 * start i) (encode step_layout (walks_of (later i)))

  pub filling : Filled out c.rules
  filling = record { low = omega arith; numbers = ap (λ (es : List Event). sets out (2 * (d.steps - length (walks_of es))) (encode step_layout (walks_of es))) (sym (event_none rules steps c c.rules (omega arith))) }

  pub filled-size : (now : List ℕ) (i : ℕ) → Filled now i → length now ≡ length out
  filled-size now i f = ap length f.numbers ∙ length-sets out (2 * start i) (encode step_layout (walks_of (later i)))

  module _ (ok : Fillable rules steps c table out d) where
    table_from : (i : ℕ) → drop i (rules_of d.rules table) ≡ rules_from (start i) (later i)
    table_from i =
        ap (drop i) ok.rules_in ∙ rules_from_lem (steps_of c.steps steps) i (rules_of c.rules rules)
        ∙ ap (λ (n : ℕ). rules_from (n - length (walks_of (later i))) (later i)) (sym ok.steps_in)

    part : (i : ℕ) → length (walks_of (later i)) ≤ d.steps
    part i = omega (arith, walks-part i (steps_of c.steps steps) (rules_of c.rules rules), ok.steps_in)

    module _ (now : List ℕ) (i j : ℕ) (f : Filled now i) (e : j + 1 ≡ i) where
      below : j < c.rules
      below = omega (arith, f.low)

      inside : get_or rules (4 * j + 2) 0 + get_or rules (4 * j + 3) 0 ≤ c.steps
      inside = table-inside rules steps c ok.formed j below

      own : List Step
      own = walk_in rules steps c (j + 1) (part_of steps c (get_or rules (4 * j + 2) 0) (get_or rules (4 * j + 3) 0))

      walks : walks_of (later j) ≡ own ++ walks_of (later (j + 1))
      unfolding own
      walks = ap walks_of (event-next rules steps c j below)

      here : get_or table (4 * j + 2) 0 ≡ start j
      here =
          let h : j < d.rules = omega (arith, below, ok.count) in
          head_first _ _ _ _ (sym (left-rule d.rules j table h) ∙ table_from j ∙ ap (rules_from (start j)) (event-next rules steps c j below))

      ends : start j + length own ≡ start (j + 1)
      ends = omega (arith, ap length walks, length-append own (walks_of (later (j + 1))), part j)

      now_numbers : now ≡ sets out (2 * start (j + 1)) (encode step_layout (walks_of (later (j + 1))))
      now_numbers = rw e f.numbers

      stands : drop (start (j + 1)) (steps_of d.steps now) ≡ walks_of (later (j + 1))
      stands =
          ap (λ (l : List ℕ). drop (start (j + 1)) (steps_of d.steps l)) now_numbers
          ∙ read_back out (start (j + 1)) d.steps (walks_of (later (j + 1))) (omega (arith, part (j + 1))) ok.step_room

      -- the event's walk expands by the table's rules as it does by the list's
      same : walk_in table now d (j + 1) (event_walk rules steps j) ≡ own
      unfolding own
      same =
          ap₂ (λ (rs : List Rule) (ws : List Step). expand_walk (steps_of d.steps now) rs ws) (table_from (j + 1)) (sym (event_walk_lem rules steps c j inside))
          ∙ memo_walk (steps_of c.steps steps) (steps_of d.steps now) (take (j + 1) (rules_of c.rules rules)) (drop (j + 1) (rules_of c.rules rules)) (start (j + 1))
          (order_from (steps_of c.steps steps) (j + 1) [] (rules_of c.rules rules) ok.ordered) stands (part_of steps c (get_or rules (4 * j + 2) 0) (get_or rules (4 * j + 3) 0))

      pub fill_asks : (4 * j + 4 ≤ length rules) × (4 * j + 4 ≤ length table) × (2 * (get_or rules (4 * j + 2) 0 + get_or rules (4 * j + 3) 0) ≤ length steps) × Ready table now d (j + 1) (get_or table (4 * j + 2) 0) (walk_in table now d (j + 1) (event_walk rules steps j))
      fill_asks =
          let room = table-room rules steps c ok.formed in
          let size = filled-size now i f in
          let fits : start (j + 1) + length (walks_of (later (j + 1))) ≤ d.steps = omega (arith, part (j + 1)) in (
            omega (arith, room.rule_room, below),
            omega (arith, ok.rule_room, ok.count, below),
            omega (arith, room.step_room, inside),
            rw (same, here)
                record {
                  rule_room = ok.rule_room;
                  step_room = omega (arith, ok.step_room);
                  ahead_in = omega (arith, below, ok.count);
                  fits = omega (arith, ends);
                  above = rw (ends, table_from (j + 1)) (lies_from d.steps (start (j + 1)) (later (j + 1)) fits);
                },
          )

      pub fill_leaves : (exit : List ℕ) → exit ≡ sets now (2 * get_or table (4 * j + 2) 0) (encode step_layout (walk_in table now d (j + 1) (event_walk rules steps j))) → Filled exit j
      fill_leaves exit q =
          let at = 2 * start j in
          let n = length-encode step_layout own in
          record {
            low = omega (arith, below);
            numbers =
                q
                ∙ ap₂ (λ (x : ℕ) (xs : List Step). sets now (2 * x) (encode step_layout xs)) here same
                ∙ ap (λ (l : List ℕ). sets l at (encode step_layout own)) now_numbers
                ∙ sets-before out at (encode step_layout own) (2 * start (j + 1)) (encode step_layout (walks_of (later (j + 1)))) (omega (arith, ends))
                ∙ ap (sets out at) (sym (encode-append step_layout own (walks_of (later (j + 1)))) ∙ ap (encode step_layout) (sym walks));
          }

    pub filled : (now : List ℕ) (i : ℕ) → i ≤ 0 → Filled now i → now ≡ sets out 0 (encode step_layout (walks_of (events_in rules steps c)))
    filled now i h f =
        let z : i ≡ 0 = omega arith in
        let whole : 2 * start 0 ≡ 0 = omega (arith, ok.steps_in) in
        let g : now ≡ sets out (2 * start 0) (encode step_layout (walks_of (events_in rules steps c))) = rw z at f.numbers in
        g ∙ ap (λ (x : ℕ). sets out x (encode step_layout (walks_of (events_in rules steps c)))) whole
