-- 27: the ends of images, and where the first link that is lost stands in written order.
use Prim.Native.Nat.{ℕ, zero, suc, ◌+◌, ◌-◌, ◌*◌, ◌≤◌, ◌<◌}
use mathlib.Core.Path.{◌≡◌, refl, sym, ap, ap₂, ◌∙◌}
use mathlib.Core.Bool.{Bool, true, false, cond, not, ◌||◌}
use mathlib.Core.List.{List, [], ◌∷◌, ◌++◌, Memᴰ}
use native.Mathlib.Omega.{arith}
use borrow.Author.Tests.{le-leb, lt-leb}
use lib.Dec.{eqb, leb}
use lib.ListN.{length, take, drop, get_or}
use Rattle.kit.specs.Loops.{all, distinct, count, keep}
use Rattle.kit.proofs.Bools.{tests, never, and_true_l, and_true_r}
use Rattle.kit.proofs.Laws.{left_none}
use Rattle.kit.proofs.Meaning.{distinct-rest}
use Rattle.kit.proofs.Members.{of_keep}
use Rattle.handle.specs.declared.Handle.{Handle}
use Rattle.handle.specs.Handle.{id_of, dir_of, flip}
use Rattle.handle.specs.Edge.{same_ends, edge_before}
use Rattle.handle.proofs.Handles.{flip-flip}
use Rattle.store.specs.declared.Counts.{Counts}
use Rattle.store.specs.Graph.{Graph, ends, link_layout, links_of, graph_of}
use Rattle.store.specs.declared.Link.{Link}
use Rattle.store.specs.Order.{written_order}
use Rattle.store.specs.Views.{len_of}
use Rattle.store.proofs.Fields.{link_at, left-link}
use Rattle.store.proofs.Order.{Written, written_nil, written_cons, order_written, order_count, order_front, earlier_of, ahead, none_ahead}
use Rattle.formed.specs.WellFormed.{links_once}
use Rattle.groups.specs.Groups.{numbers}
use Rattle.events.specs.declared.Used.{Used}
use Rattle.events.specs.Events.{Rules, rule, keyed, rules_of, steps_of, list_of}
use Rattle.events.specs.declared.Rule.{Rule}
use Rattle.events.specs.WellFormed.{table_formed}
use Rattle.events.proofs.Says.{table-room}
use Rattle.spelling.specs.Spelling.{turn_walk}
use Rattle.spelling.proofs.Walks.{length-turn}
use Rattle.rewriting.specs.Rewriting.{ruled, rule_under, nodes_on, transform_node}
use Rattle.rewriting.specs.Measure.{towards}
use Rattle.rewriting.proofs.Tables.{RuleFound, steps-inside}
use Rattle.rewriting.proofs.Images.{by_rule, length-new}
use Rattle.rewriting.proofs.Walks.{transform_flip}
use Rattle.scanning.specs.Rules.{verdict, or_then, unless, has_steps}
use Rattle.keeping.specs.Kept.{last_of, first_of, link_kept, links_fault}
use Rattle.keeping.specs.Search.{lost_links, ends_at}

-- the first step of an image, by its number; and its last, by the image turned round
first_number_lem : (hs : List Handle) → (first_of hs).packed ≡ get_or (numbers hs) 0 0
first_number_lem [] = refl
first_number_lem (h ∷ hs) = refl

first-append : (a b : List Handle) → 1 ≤ length a → first_of (a ++ b) ≡ first_of a
first-append [] b h = absurd (omega arith)
first-append (x ∷ a) b h = refl

first-turn : (a : List Handle) → 1 ≤ length a → first_of (turn_walk a) ≡ flip (last_of a)
first-turn [] h = absurd (omega arith)
first-turn (x ∷ []) h = refl
first-turn (x ∷ y ∷ a) h =
    first-append (turn_walk (y ∷ a)) (flip x ∷ []) (omega (arith, length-turn (y ∷ a))) ∙ first-turn (y ∷ a) (omega arith)

-- 20 was passed: each rule has a step, and so has each image
pub under_steps : (id len : ℕ) (rs : List Rule) → all has_steps rs ≡ true → ruled id len rs ≡ true → 1 ≤ (rule_under id len rs).steps
under_steps id len [] t e = never (sym e)
under_steps id len (r ∷ rs) t e = by (keyed id len r) e (under_steps id len rs (and_true_r (has_steps r) (all has_steps rs) t))
  where
    some : (b : Bool) → eqb r.steps 0 ≡ b → not b ≡ true → 1 ≤ r.steps
    some true z n = never (sym n)
    some false z n = omega (arith, tests)

    by : (b : Bool) → (b || ruled id len rs) ≡ true → (ruled id len rs ≡ true → 1 ≤ (rule_under id len rs).steps) → 1 ≤ (cond b r (rule_under id len rs)).steps
    by true q go = some (eqb r.steps 0) refl (and_true_l (has_steps r) (all has_steps rs) t)
    by false q go = go q

module _ (nodes rules steps : List ℕ) (c : Counts) (u : Used) (ok : table_formed rules steps u ≡ true) (full : all has_steps (rules_of u.rules rules) ≡ true) (h : Handle) where
  abbrev image : Handle → List Handle
  image x = transform_node (graph_of nodes [] [] c) (list_of rules steps u) x

  some_step : 1 ≤ length (image h)
  some_step = rw (length-new nodes rules steps c u ok h) (by (ruled (id_of h) len (rules_of u.rules rules)) refl)
    where
      len : ℕ
      len = len_of (graph_of nodes [] [] c) (id_of h)

      by : (b : Bool) → ruled (id_of h) len (rules_of u.rules rules) ≡ b → 1 ≤ cond b (rule_under (id_of h) len (rules_of u.rules rules)).steps 1
      by true e = under_steps (id_of h) len (rules_of u.rules rules) full e
      by false e = omega arith

  pub last_step : flip (first_of (image (flip h))) ≡ last_of (image h)
  last_step =
      ap flip (ap first_of (transform_flip (graph_of nodes [] [] c) (list_of rules steps u) h) ∙ first-turn (image h) some_step)
      ∙ flip-flip (last_of (image h))

-- the first step by the rule in slot i
module _ (nodes rules steps : List ℕ) (c : Counts) (u : Used) (ok : table_formed rules steps u ≡ true) (h : Handle) (i : ℕ) (f : RuleFound u.rules rules (id_of h) (len_of (graph_of nodes [] [] c) (id_of h)) i) where
  abbrev len : ℕ
  len = len_of (graph_of nodes [] [] c) (id_of h)

  pub slot_room : 4 * i + 4 ≤ length rules
  slot_room = omega (arith, f.within, (table-room rules steps u ok).rule_room)

  pub slot_steps : all has_steps (rules_of u.rules rules) ≡ true → 1 ≤ get_or rules (4 * i + 3) 0
  slot_steps full =
      omega (arith, ap (λ (r : Rule). r.steps) f.here, under_steps (id_of h) len (rules_of u.rules rules) full f.is_ruled)

  pub slot_inside : get_or rules (4 * i + 2) 0 + get_or rules (4 * i + 3) 0 ≤ u.steps
  slot_inside = rw f.here at (steps-inside rules steps u ok (id_of h) len)

  pub first_by_rule : (d : ℕ) → d ≡ dir_of h → (first_of (transform_node (graph_of nodes [] [] c) (list_of rules steps u) h)).packed ≡ get_or (numbers (towards d (nodes_on (steps_of u.steps steps) (rule 0 0 (get_or rules (4 * i + 2) 0) (get_or rules (4 * i + 3) 0))))) 0 0
  first_by_rule d e =
      first_number_lem (transform_node (graph_of nodes [] [] c) (list_of rules steps u) h)
      ∙ ap (λ (hs : List Handle). get_or (numbers hs) 0 0)
      (by_rule (graph_of nodes [] [] c) (list_of rules steps u) h f.is_ruled ∙ ap₂ (λ (x : ℕ) (r : Rule). towards x (nodes_on (steps_of u.steps steps) r)) (sym e) f.here)

-- what the code's test of two slots tells
module _ (n i best : ℕ) (b : Bool) where
  pub slot_free : n ≤ best → i ≡ cond (leb n best || b) i best
  slot_free h = rw (le-leb n best h)

  pub slot_first : best < n → b ≡ true → i ≡ cond (leb n best || b) i best
  slot_first h e = rw (lt-leb n best h, e)

  pub slot_stays : best < n → b ≡ false → best ≡ cond (leb n best || b) i best
  slot_stays h e = rw (lt-leb n best h, e)

-- the slot of the one that is written first
module _ (n : ℕ) (l : List ℕ) (i best : ℕ) (h : i < n) where
  pub earlier_slot : take 1 (drop (cond (leb n best || edge_before (ends_at l i) (ends_at l best)) i best) (links_of n l)) ≡ earlier_of (link_at l i) (take 1 (drop best (links_of n l)))
  earlier_slot = by (leb n best) (edge_before (ends_at l i) (ends_at l best)) refl refl
    where
      here : take 1 (drop i (links_of n l)) ≡ link_at l i ∷ []
      here = rw (left-link n i l h)

      there : leb n best ≡ false → take 1 (drop best (links_of n l)) ≡ link_at l best ∷ []
      there e = rw (left-link n best l (omega (arith, tests)))

      by : (a b : Bool) → leb n best ≡ a → edge_before (ends_at l i) (ends_at l best) ≡ b → take 1 (drop (cond (a || b) i best) (links_of n l)) ≡ earlier_of (link_at l i) (take 1 (drop best (links_of n l)))
      by true b e f = rw (left_none link_layout n best l (omega (arith, tests))) here
      by false true e f = rw (there e, f) here
      by false false e f = rw (there e, f)

distinct-drop : {A : Type 0} (same : A → A → Bool) (i : ℕ) (rs : List A) → distinct same rs ≡ true → distinct same (drop i rs) ≡ true
distinct-drop same zero rs t = t
distinct-drop same (suc i) [] t = t
distinct-drop same (suc i) (r ∷ rs) t = distinct-drop same i rs (distinct-rest same r rs t)

one-front : {m : Link} (l : List Link) → take 1 l ≡ m ∷ [] → Memᴰ m l
one-front {m} [] e = let z : ◌≡◌ {A = ℕ} 0 1 = ap length e in absurd (omega arith)
one-front {m} (x ∷ l) e = let q : m ≡ x = cc in Memᴰ.head q

module _ (old new : Graph) (t : Rules) where
  abbrev lost : Link → Bool
  lost r = not (link_kept old new t r)

  -- the first that is lost
  abbrev front : List Link → List Link
  front ys = take 1 (keep lost ys)

  -- the loop over slots: `best` is the slot of the first that is lost of those from slot i on
  module _ (n : ℕ) (l : List ℕ) where
    abbrev pub FirstLost : ℕ → ℕ → Type 0
    FirstLost i best = take 1 (drop best (links_of n l)) ≡ take 1 (lost_links old new t (drop i (links_of n l)))

    pub none_lost : FirstLost n n
    none_lost = rw (left_none link_layout n n l (omega arith))

    module _ (once : links_once (links_of n l) ≡ true) (i best : ℕ) (low : 0 < i) (high : i ≤ n) (e : FirstLost i best) where
      turn : take 1 (lost_links old new t (drop (i - 1) (links_of n l))) ≡ cond (lost (link_at l (i - 1))) (earlier_of (link_at l (i - 1)) (take 1 (drop best (links_of n l)))) (take 1 (drop best (links_of n l)))
      turn =
          let q : i - 1 + 1 ≡ i = omega arith in
          let x = link_at l (i - 1) in
          let rs = drop i (links_of n l) in
          let step : drop (i - 1) (links_of n l) ≡ x ∷ rs = left-link n (i - 1) l (omega arith) ∙ ap (λ (k : ℕ). x ∷ drop k (links_of n l)) q in
          ap (λ (ks : List Link). take 1 (lost_links old new t ks)) step
          ∙ order_front lost x rs (distinct-drop (λ r s. same_ends (ends r) (ends s)) i (links_of n l) once)
          ∙ ap (λ (ks : List Link). cond (lost x) (earlier_of x ks) ks) (sym e)

      pub link_stays : link_kept old new t (link_at l (i - 1)) ≡ true → FirstLost (i - 1) best
      link_stays k = sym (turn ∙ rw k)

      pub link_goes : link_kept old new t (link_at l (i - 1)) ≡ false → (r : ℕ) → r ≡ cond (leb n best || edge_before (ends_at l (i - 1)) (ends_at l best)) (i - 1) best → FirstLost (i - 1) r
      link_goes k r f =
          ap (λ (s : ℕ). take 1 (drop s (links_of n l))) f ∙ earlier_slot n l (i - 1) best (omega arith) ∙ sym (turn ∙ rw k)

  -- where the first that is lost stands
  fault_none : (i : ℕ) (ys : List Link) → front ys ≡ [] → links_fault old new t i ys ≡ verdict 0 0 0
  fault_none i [] e = refl
  fault_none i (y ∷ ys) e = by (link_kept old new t y) e (fault_none (i + 1) ys)
    where
      by : (k : Bool) → take 1 (cond (not k) (y ∷ keep lost ys) (keep lost ys)) ≡ [] → (front ys ≡ [] → links_fault old new t (i + 1) ys ≡ verdict 0 0 0) → or_then (unless k 27 i 0) (links_fault old new t (i + 1) ys) ≡ verdict 0 0 0
      by true q go = go q
      by false q go = let z : ◌≡◌ {A = ℕ} 1 0 = ap length q in absurd (omega arith)

  fault-at : (i : ℕ) {ys : List Link} → Written ys → (m : Link) → front ys ≡ m ∷ [] → links_fault old new t i ys ≡ verdict 27 (i + count (ahead m) ys) 0
  fault-at i written_nil m e = let z : ◌≡◌ {A = ℕ} 0 1 = ap length e in absurd (omega arith)
  fault-at i (written_cons {x = y} {xs = ys} low s) m e = by (link_kept old new t y) e (fault-at (i + 1) s m)
    where
      by : (k : Bool) → take 1 (cond (not k) (y ∷ keep lost ys) (keep lost ys)) ≡ m ∷ [] → (front ys ≡ m ∷ [] → links_fault old new t (i + 1) ys ≡ verdict 27 (i + 1 + count (ahead m) ys) 0) → or_then (unless k 27 i 0) (links_fault old new t (i + 1) ys) ≡ verdict 27 (i + count (ahead m) (y ∷ ys)) 0
      by true q go =
          let b : ahead m y ≡ true = low m (of_keep lost ys (one-front (keep lost ys) q)).0 in
          let n : i + 1 + count (ahead m) ys ≡ i + (1 + count (ahead m) ys) = omega arith in
          rw b (go q ∙ ap (λ (k : ℕ). verdict 27 k 0) n)
      by false q go =
          let p : y ≡ m = cc in
          let n : i ≡ i + count (ahead m) (y ∷ ys) = omega (arith, none_ahead y ys low, ap (λ (x : Link). count (ahead x) (y ∷ ys)) p) in
          ap (λ (k : ℕ). verdict 27 k 0) n

  module _ (n : ℕ) (l : List ℕ) (once : links_once (links_of n l) ≡ true) (k : ℕ) (e : FirstLost n l 0 k) where
    pub no_place : n ≤ k → verdict 0 0 0 ≡ links_fault old new t 0 (written_order (links_of n l))
    no_place h = sym (fault_none 0 (written_order (links_of n l)) (sym e ∙ rw (left_none link_layout n k l h)))

    pub place : k < n → verdict 27 (count (λ s. edge_before (ends s) (ends_at l k)) (links_of n l)) 0 ≡ links_fault old new t 0 (written_order (links_of n l))
    place h =
        let m = link_at l k in
        let q : 0 + count (ahead m) (written_order (links_of n l)) ≡ count (ahead m) (links_of n l) = omega (arith, order_count (ahead m) (links_of n l)) in
        sym (fault-at 0 (order_written (links_of n l) once) m (sym e ∙ rw (left-link n k l h)) ∙ ap (λ (x : ℕ). verdict 27 x 0) q)

  -- letters, and the old links, do not come in
  pub links-bare : (i : ℕ) (rs : List Link) → links_fault old new t i rs ≡ links_fault (record { nodes = old.nodes; letters = []; links = [] }) (record { nodes = new.nodes; letters = []; links = new.links }) t i rs
  links-bare i [] = refl
  links-bare i (r ∷ rs) = ap (or_then (unless (link_kept old new t r) 27 i 0)) (links-bare (i + 1) rs)
