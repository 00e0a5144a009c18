-- 28: the ids on a protected node's walk, and what was met before a step.
use Prim.Native.Nat.{ℕ, zero, suc, ◌+◌, ◌*◌, ◌≤◌, ◌<◌}
use mathlib.Core.Path.{◌≡◌, refl, sym, ap, ap₂, ◌∙◌}
use mathlib.Core.Bool.{Bool, true, false, cond, not, ◌&&◌, ◌||◌}
use mathlib.Core.List.{List, [], ◌∷◌, ◌++◌, map, append_assoc, append-nil}
use native.Mathlib.Numerals.{add-one}
use native.Mathlib.Omega.{arith}
use lib.Dec.{eqb}
use lib.ListN.{length, take, drop, get_or, length-map, get_or-map, drop_of_length-le}
use lib.Seq.{take-suc, take-take}
use Rattle.kit.specs.Loops.{any, lines}
use Rattle.kit.proofs.Bools.{or_false_l, or_false_r}
use Rattle.kit.proofs.Meaning.{any_append, lines-append}
use Rattle.kit.proofs.Steps.{left_at}
use Rattle.handle.specs.Handle.{id_of}
use Rattle.store.specs.declared.Counts.{Counts}
use Rattle.store.specs.Graph.{Graph, handle, graph_of}
use Rattle.store.specs.Views.{len_of}
use Rattle.events.specs.declared.Used.{Used}
use Rattle.events.specs.Events.{Rules, rule, keyed, rules_of, steps_of, list_of}
use Rattle.events.specs.declared.Rule.{Rule}
use Rattle.events.specs.declared.Step.{Step}
use Rattle.events.specs.WellFormed.{table_formed}
use Rattle.rewriting.specs.Rewriting.{ruled, rule_under, nodes_on}
use Rattle.rewriting.proofs.Tables.{steps-inside, length-on, on-at}
use Rattle.scanning.specs.declared.Verdict.{Verdict}
use Rattle.verdict.specs.declared.repeats.Walk.{Walk}
use Rattle.scanning.specs.Rules.{verdict, or_then, unless}
use Rattle.verdict.specs.Conditions.{protected_ids, no_repeat, protected_fault}
use Rattle.verdict.specs.Search.{walk_at}

map-take : {A B : Type 0} (f : A → B) (n : ℕ) (l : List A) → take n (map f l) ≡ map f (take n l)
map-take f zero l = refl
map-take f (suc n) [] = refl
map-take f (suc n) (x ∷ l) = ap (λ (r : List _). f x ∷ r) (map-take f n l)

take_next : {A : Type 0} (l : List A) (j : ℕ) (d : A) → j < length l → take (j + 1) l ≡ take j l ++ (get_or l j d ∷ [])
take_next l j d h = ap (λ (k : ℕ). take k l) (add-one j) ∙ take-suc l j d h

-- the ids of `count` steps from `first` on
abbrev pub ids_on : ℕ → List ℕ → ℕ → ℕ → List ℕ
ids_on total l first count = map id_of (nodes_on (steps_of total l) (rule 0 0 first count))

module _ (total : ℕ) (l : List ℕ) (first count : ℕ) (h : first + count ≤ total) where
  abbrev ids : List ℕ
  ids = ids_on total l first count

  pub length_ids : length ids ≡ count
  length_ids = length-map (nodes_on (steps_of total l) (rule 0 0 first count)) id_of ∙ length-on total l first count h

  pub id-at : (j : ℕ) → j < count → get_or ids j 0 ≡ id_of (handle (get_or l (2 * (first + j)) 0))
  id-at j k =
      get_or-map id_of (nodes_on (steps_of total l) (rule 0 0 first count)) j (handle 0) ∙ ap id_of (on-at total l first count h j k)

  pub left-id : (j : ℕ) → j < count → drop j ids ≡ id_of (handle (get_or l (2 * (first + j)) 0)) ∷ drop (j + 1) ids
  left-id j k = left_at ids j 0 (omega (arith, length_ids)) ∙ ap (λ (x : ℕ). x ∷ drop (j + 1) ids) (id-at j k)

  pub no_id : (j : ℕ) → count ≤ j → drop j ids ≡ []
  no_id j k = drop_of_length-le ids {i = j} (omega (arith, length_ids))

  -- those before step j
  pub ids-before : (j : ℕ) → j ≤ count → map id_of (nodes_on (steps_of total l) (rule 0 0 first j)) ≡ take j ids
  ids-before j k =
      let on : List Step = drop first (steps_of total l) in
      sym (map-take id_of j (map (λ s. s.node) (take count on))
      ∙ ap (map id_of) (map-take (λ s. s.node) j (take count on) ∙ ap (map (λ s. s.node)) (take-take j count on k)))

-- without a rule the walk has no step
none_under : (id len : ℕ) (rs : List Rule) → ruled id len rs ≡ false → rule_under id len rs ≡ rule 0 0 0 0
none_under id len [] e = refl
none_under id len (r ∷ rs) e =
    rw (or_false_l (keyed id len r) (ruled id len rs) e) (none_under id len rs (or_false_r (keyed id len r) (ruled id len rs) e))

protected_is : (old : Graph) (t : Rules) (id : ℕ) → map id_of (nodes_on t.steps (rule_under id (len_of old id) t.rules)) ≡ protected_ids old t id
protected_is old t id = by (ruled id (len_of old id) t.rules) refl
  where
    by : (b : Bool) → ruled id (len_of old id) t.rules ≡ b → map id_of (nodes_on t.steps (rule_under id (len_of old id) t.rules)) ≡ cond b (map id_of (nodes_on t.steps (rule_under id (len_of old id) t.rules))) []
    by true e = refl
    by false e = rw (none_under id (len_of old id) t.rules e)

-- a walk that was looked up
module _ (nodes rules steps : List ℕ) (c : Counts) (u : Used) (id : ℕ) (w : Walk) (e : w ≡ walk_at (rule_under id (len_of (graph_of nodes [] [] c) id) (rules_of u.rules rules))) where
  pub walk_inside : table_formed rules steps u ≡ true → w.first + w.count ≤ u.steps
  walk_inside ok = rw e (steps-inside rules steps u ok id (len_of (graph_of nodes [] [] c) id))

  pub walk_ids : map id_of (nodes_on (steps_of u.steps steps) (rule 0 0 w.first w.count)) ≡ protected_ids (graph_of nodes [] [] c) (list_of rules steps u) id
  walk_ids = rw e (protected_is (graph_of nodes [] [] c) (list_of rules steps u) id)

  module _ (ok : table_formed rules steps u ≡ true) (j : ℕ) where
    abbrev on : List ℕ
    on = protected_ids (graph_of nodes [] [] c) (list_of rules steps u) id

    pub walk_length : length on ≡ w.count
    walk_length = ap length (sym walk_ids) ∙ length_ids u.steps steps w.first w.count (walk_inside ok)

    pub walk_node : j < w.count → get_or on j 0 ≡ id_of (handle (get_or steps (2 * (w.first + j)) 0))
    walk_node h = ap (λ (l : List ℕ). get_or l j 0) (sym walk_ids) ∙ id-at u.steps steps w.first w.count (walk_inside ok) j h

    pub walk_before : j ≤ w.count → map id_of (nodes_on (steps_of u.steps steps) (rule 0 0 w.first j)) ≡ take j on
    walk_before h = ids-before u.steps steps w.first w.count (walk_inside ok) j h ∙ ap (take j) walk_ids

-- walk by walk
module _ (f : ℕ → List ℕ) (id : ℕ) (ps : List ℕ) (k : ℕ) where
  one_walk : k < length ps → any (eqb id) (lines f (drop k ps)) ≡ (any (eqb id) (f (get_or ps k 0)) || any (eqb id) (lines f (drop (k + 1) ps)))
  one_walk h = rw (left_at ps k 0 h) (any_append (eqb id) (f (get_or ps k 0)) (lines f (drop (k + 1) ps)))

  pub walk_hit : k < length ps → any (eqb id) (f (get_or ps k 0)) ≡ true → any (eqb id) (lines f (drop k ps)) ≡ true
  walk_hit h t = one_walk h ∙ rw t

  pub walk_miss : k < length ps → any (eqb id) (f (get_or ps k 0)) ≡ false → any (eqb id) (lines f (drop k ps)) ≡ any (eqb id) (lines f (drop (k + 1) ps))
  walk_miss h t = one_walk h ∙ rw t

  pub walk_end : length ps ≤ k → any (eqb id) (lines f (drop k ps)) ≡ false
  walk_end h = rw (drop_of_length-le ps {i = k} h)

-- step by step: `seen` are the walks before, and the steps before j
module _ (seen ids : List ℕ) where
  abbrev pub fresh : ℕ → Bool
  fresh j = no_repeat (seen ++ take j ids) (drop j ids)

  pub fresh-first : fresh 0 ≡ no_repeat seen ids
  fresh-first = ap (λ (l : List ℕ). no_repeat l ids) (append-nil seen)

  module _ (j : ℕ) where
    one-step : j < length ids → fresh j ≡ (not (any (eqb (get_or ids j 0)) seen || any (eqb (get_or ids j 0)) (take j ids)) && fresh (j + 1))
    one-step h =
        let x = get_or ids j 0 in
        ap (no_repeat (seen ++ take j ids)) (left_at ids j 0 h)
        ∙ ap₂ (λ (b : Bool) (l : List ℕ). not b && no_repeat l (drop (j + 1) ids))
        (any_append (eqb x) seen (take j ids))
        (append_assoc seen (take j ids) (x ∷ []) ∙ ap (λ (l : List ℕ). seen ++ l) (sym (take_next ids j 0 h)))

    pub fresh_seen : j < length ids → any (eqb (get_or ids j 0)) seen ≡ true → fresh j ≡ false
    fresh_seen h t = one-step h ∙ rw t

    pub fresh_again : j < length ids → any (eqb (get_or ids j 0)) seen ≡ false → any (eqb (get_or ids j 0)) (take j ids) ≡ true → fresh j ≡ false
    fresh_again h s t = one-step h ∙ rw (s, t)

    pub fresh-next : j < length ids → any (eqb (get_or ids j 0)) seen ≡ false → any (eqb (get_or ids j 0)) (take j ids) ≡ false → fresh j ≡ fresh (j + 1)
    fresh-next h s t = one-step h ∙ rw (s, t)

    pub fresh_end : length ids ≤ j → fresh j ≡ true
    fresh_end h = ap (no_repeat (seen ++ take j ids)) (drop_of_length-le ids {i = j} h)

-- protected node by protected node
module _ (old : Graph) (t : Rules) (ps : List ℕ) where
  abbrev pub seen_before : ℕ → List ℕ
  seen_before i = lines (protected_ids old t) (take i ps)

  abbrev pub fault_from : ℕ → Verdict
  fault_from i = protected_fault old t i (seen_before i) (drop i ps)

  module _ (i : ℕ) where
    one-node : i < length ps → fault_from i ≡ or_then (unless (no_repeat (seen_before i) (protected_ids old t (get_or ps i 0))) 28 i 0) (fault_from (i + 1))
    one-node h =
        let p = get_or ps i 0 in
        let more : seen_before i ++ protected_ids old t p ≡ seen_before (i + 1) = sym (ap (lines (protected_ids old t)) (take_next ps i 0 h) ∙ lines-append (protected_ids old t) (take i ps) (p ∷ []) ∙ ap (λ (l : List ℕ). seen_before i ++ l) (append-nil (protected_ids old t p))) in
        ap (protected_fault old t i (seen_before i)) (left_at ps i 0 h)
        ∙ ap (λ (l : List ℕ). or_then (unless (no_repeat (seen_before i) (protected_ids old t p)) 28 i 0) (protected_fault old t (i + 1) l (drop (i + 1) ps))) more

    pub node_repeats : i < length ps → no_repeat (seen_before i) (protected_ids old t (get_or ps i 0)) ≡ false → fault_from i ≡ verdict 28 i 0
    node_repeats h e = one-node h ∙ rw e

    pub node-fresh : i < length ps → no_repeat (seen_before i) (protected_ids old t (get_or ps i 0)) ≡ true → fault_from i ≡ fault_from (i + 1)
    node-fresh h e = one-node h ∙ rw e

    pub no_node-left : length ps ≤ i → fault_from i ≡ verdict 0 0 0
    no_node-left h = ap (protected_fault old t i (seen_before i)) (drop_of_length-le ps {i = i} h)

-- of the old graph only the nodes come in
pub protected_bare : (old : Graph) (t : Rules) (i : ℕ) (seen ps : List ℕ) → protected_fault old t i seen ps ≡ protected_fault (record { nodes = old.nodes; letters = []; links = [] }) t i seen ps
protected_bare old t i seen [] = refl
protected_bare old t i seen (p ∷ ps) =
    ap (or_then (unless (no_repeat seen (protected_ids old t p)) 28 i 0)) (protected_bare old t (i + 1) (seen ++ protected_ids old t p) ps)
