-- Records one after another: the numbers of the graph and of each step, in their order, and the turns of the loop over them.
use Prim.Native.Nat.{ℕ, ◌+◌, ◌*◌, ◌≤◌, ◌<◌}
use mathlib.Core.Path.{◌≡◌, refl, sym, ap, ◌∙◌}
use mathlib.Core.Bool.{Bool, true, false, cond, not, ◌&&◌}
use mathlib.Core.List.{List, [], ◌∷◌, map}
use native.Mathlib.Omega.{arith}
use borrow.Author.Tests.{eq-eqb, ne_eqb, eqb-true, not-true, not-false}
use lib.Dec.{eqb, leb}
use lib.ListN.{length, drop, get_or, drop_of_length-le}
use Rattle.kit.specs.Loops.{all}
use Rattle.kit.proofs.Bools.{never, and_true_l}
use Rattle.kit.proofs.Steps.{left_at}
use Rattle.store.specs.declared.Counts.{Counts}
use Rattle.store.specs.Graph.{Graph, nodes_of, graph_of}
use Rattle.formed.specs.WellFormed.{well_formed, ids_once}
use Rattle.formed.proofs.Says.{formed_room}
use Rattle.events.specs.declared.Step as walked
use Rattle.scanning.specs.declared.Verdict.{Verdict}
use Rattle.scanning.specs.Rules.{verdict, or_then, unless, step_lives, length_true, follows, step_fault, steps_fault}
use Rattle.scanning.proofs.RuleTurns.{placed, step-placed}
use Rattle.records.specs.declared.Step.{Step}
use Rattle.records.specs.Records.{record_of, step_of, in_range, record_fault, input_formed, input_fault, next_fault, scanned, steps_outcome}

-- what stands after a step, by its number
module _ (found : Verdict) (n at : ℕ) where
  pub is_out : n ≡ 13 → verdict 13 0 0 ≡ next_fault found n at
  is_out e = rw (eq-eqb n 13 e)

  module _ (z : n ≡ 13 → ⊥) where
    pub stays : (found.number ≡ 0 → ⊥) → found ≡ next_fault found n at
    stays f = rw (ne_eqb n 13 z, ne_eqb found.number 0 f)

    module _ (f : found.number ≡ 0) where
      pub still_none : n ≡ 0 → found ≡ next_fault found n at
      still_none e = rw (ne_eqb n 13 z, eq-eqb found.number 0 f, eq-eqb n 0 e)

      pub is_first : (n ≡ 0 → ⊥) → verdict n 0 at ≡ next_fault found n at
      is_first e = rw (ne_eqb n 13 z, eq-eqb found.number 0 f, ne_eqb n 0 e)

-- the tests of a record and of the one before it, and the number of a step that both let pass
module _ (n at : ℕ) (v w : Verdict) (z : eqb n 13 ≡ false) where
  by_number : (p q : Bool) → eqb v.number 0 ≡ p → eqb n 0 ≡ q → or_then v (or_then (placed n 0 at) w) ≡ or_then (next_fault v n at) w
  by_number true true e f = rw (z, e, f, e)
  by_number true false e f = rw (z, e, f, f)
  by_number false q e f = rw (z, e, e)

  turned : (b s rest : Bool) → (b ≡ false → s ≡ true → v ≡ verdict 13 0 0)
      → or_then (unless (s && rest) 13 0 0) (or_then v (or_then (placed n 0 at) w)) ≡ or_then (unless rest 13 0 0) (or_then (next_fault v (cond (b && s) n 13) at) w)
  turned true false true o = refl
  turned true false false o = refl
  turned false false true o = refl
  turned false false false o = refl
  turned false true true o = rw (o refl refl)
  turned false true false o = refl
  turned true true true o = by_number (eqb v.number 0) (eqb n 0) refl refl
  turned true true false o = refl

-- a step that is in range never gives 13
not_13 : (g : Graph) (before : List walked.Step) (s : walked.Step) → eqb (step_fault g 0 0 before s).number 13 ≡ false
not_13 g before s = by (step_lives g s) (length_true g s) (follows g before s)
  where
    by : (a b e : Bool) → eqb (or_then (unless a 21 0 0) (or_then (unless b 22 0 0) (unless e 23 0 0))).number 13 ≡ false
    by true true true = refl
    by true true false = refl
    by true false e = refl
    by false b e = refl

module _ (g : Graph) (rs : List Step) (start : Verdict) where
  abbrev pub record_at : ℕ → Step
  record_at i = get_or rs i (record_of 0 0 0)

  abbrev last : ℕ → ℕ → List walked.Step
  last before at = cond (eqb before at) [] (step_of (record_at before) ∷ [])

  -- what is left from place `at` on
  abbrev left_from : Verdict → ℕ → ℕ → Verdict
  left_from v before at =
      or_then (unless (all in_range (drop at rs)) 13 0 0) (or_then v (steps_fault g 0 at (last before at) (map step_of (drop at rs))))

  -- in a turn: what was found so far, and the step before
  pub record Scans (v : Verdict) (before at : ℕ) : Type 0 where
    pub within : at ≤ length rs
    pub behind : before ≤ at
    pub none : v.number ≡ 0 → v ≡ verdict 0 0 0
    pub out : eqb before at ≡ false → in_range (record_at before) ≡ false → v ≡ verdict 13 0 0
    pub left : left_from v before at ≡ scanned g start rs

  pub begins : start.first ≡ 0 → start.second ≡ 0 → Scans start 0 0
  begins e f = record { within = omega arith; behind = omega arith; none = λ z. rw (z, e, f); out = λ z. never z; left = refl }

  module _ (v : Verdict) (before at : ℕ) (m : Scans v before at) where
    pub ends : length rs ≤ at → v ≡ scanned g start rs
    ends h = at_end (eqb v.number 0) refl ∙ m.left
      where
        at_end : (t : Bool) → eqb v.number 0 ≡ t → v ≡ left_from v before at
        at_end true e = m.none (eqb-true v.number 0 e) ∙ rw (drop_of_length-le rs h, e)
        at_end false e = rw (drop_of_length-le rs h, e)

    module _ (h : at < length rs) where
      abbrev after : Verdict
      after = next_fault v (record_fault g rs before at) at

      -- a first record is its own step before
      own_out : in_range (record_at before) ≡ false → in_range (record_at at) ≡ true → v ≡ verdict 13 0 0
      own_out e f = by (eqb before at) refl
        where
          by : (t : Bool) → eqb before at ≡ t → v ≡ verdict 13 0 0
          by true q = never (sym f ∙ ap (λ (i : ℕ). in_range (record_at i)) (sym (eqb-true before at q)) ∙ e)
          by false q = m.out q e

      here-left : left_from v before at ≡ left_from after at (at + 1)
      here-left =
          let s = step_of (record_at at) in
          let b = last before at in
          let n = (step_fault g 0 0 b s).number in
          let e : last at (at + 1) ≡ s ∷ [] = rw (ne_eqb at (at + 1) (λ z. omega arith)) in
          let w = steps_fault g 0 (at + 1) (s ∷ []) (map step_of (drop (at + 1) rs)) in
          ap (λ (l : List Step). or_then (unless (all in_range l) 13 0 0) (or_then v (steps_fault g 0 at b (map step_of l)))) (left_at rs at (record_of 0 0 0) h)
          ∙ ap (λ (f : Verdict). or_then (unless (in_range (record_at at) && all in_range (drop (at + 1) rs)) 13 0 0) (or_then v (or_then f w))) (step-placed g b s 0 at)
          ∙ turned n at v w (not_13 g b s) (in_range (record_at before)) (in_range (record_at at)) (all in_range (drop (at + 1) rs)) own_out
          ∙ ap (λ (l : List walked.Step). or_then (unless (all in_range (drop (at + 1) rs)) 13 0 0) (or_then after (steps_fault g 0 (at + 1) l (map step_of (drop (at + 1) rs))))) (sym e)

      after_none : (n : ℕ) (p q t : Bool) → eqb n 13 ≡ p → eqb v.number 0 ≡ q → eqb n 0 ≡ t → (next_fault v n at).number ≡ 0 → next_fault v n at ≡ verdict 0 0 0
      after_none n true q t e f k = rw e (λ z. absurd (omega arith))
      after_none n false true true e f k = rw (e, f, k) (λ z. m.none (eqb-true v.number 0 f))
      after_none n false true false e f k = rw (e, f, k) (λ z. never (sym (eq-eqb n 0 z) ∙ k))
      after_none n false false t e f k = rw (e, f) (λ z. never (sym (eq-eqb v.number 0 z) ∙ f))

      after_out : (b t : Bool) (n : ℕ) → t ≡ false → next_fault v (cond (b && t) n 13) at ≡ verdict 13 0 0
      after_out true t n e = rw e
      after_out false t n e = refl

      pub turns : Scans after at (at + 1)
      turns =
          record {
            within = omega arith;
            behind = omega arith;
            none = let n = record_fault g rs before at in after_none n (eqb n 13) (eqb v.number 0) (eqb n 0) refl refl refl;
            out = λ q e. after_out (in_range (record_at before)) (in_range (record_at at)) _ e;
            left = sym here-left ∙ m.left;
          }

-- whether a first number is 13
is_13 : (a b : Bool) → eqb (or_then (unless a 13 0 0) (unless b 5 0 0)).number 13 ≡ not a
is_13 true true = refl
is_13 true false = refl
is_13 false b = refl

-- the number of what is handed in, before any record is looked at
module _ (nodes letters links : List ℕ) (d : Counts) (count : ℕ) where
  abbrev once : Bool
  once = ids_once (nodes_of d.nodes nodes)

  pub not_formed : input_formed nodes letters links d count ≡ false → verdict 13 0 0 ≡ input_fault nodes letters links d count
  not_formed e = rw e

  module _ (t : input_formed nodes letters links d count ≡ true) where
    pub id-twice : once ≡ false → verdict 5 0 0 ≡ input_fault nodes letters links d count
    id-twice e = rw (t, e)

    pub all_once : once ≡ true → verdict 0 0 0 ≡ input_fault nodes letters links d count
    all_once e = rw (t, e)

    pub rooms : (4 * d.nodes ≤ length nodes) × (3 * d.links ≤ length links)
    rooms = let r = formed_room nodes letters links d (and_true_l (well_formed nodes letters links d) (leb count 262144) t) in (r.node_room, r.link_room)

  pub no_places : ((input_fault nodes letters links d count).first ≡ 0) × ((input_fault nodes letters links d count).second ≡ 0)
  no_places = by (input_formed nodes letters links d count) once
    where
      by : (a b : Bool) → let v = or_then (unless a 13 0 0) (unless b 5 0 0) in (v.first ≡ 0) × (v.second ≡ 0)
      by true true = (refl, refl)
      by true false = (refl, refl)
      by false b = (refl, refl)

  pub formed_else : eqb (input_fault nodes letters links d count).number 13 ≡ false → input_formed nodes letters links d count ≡ true
  formed_else e = not-false _ (sym (is_13 (input_formed nodes letters links d count) once) ∙ e)

module _ (nodes letters links : List ℕ) (d : Counts) where
  -- a step's conditions read no letters
  steps_text_lem : (at : ℕ) (before ss : List walked.Step) → steps_fault (graph_of nodes [] links d) 0 at before ss ≡ steps_fault (graph_of nodes letters links d) 0 at before ss
  steps_text_lem at before [] = refl
  steps_text_lem at [] (s ∷ ss) = ap (or_then (step_fault (graph_of nodes letters links d) 0 at [] s)) (steps_text_lem (at + 1) (s ∷ []) ss)
  steps_text_lem at (b ∷ bs) (s ∷ ss) = ap (or_then (step_fault (graph_of nodes letters links d) 0 at (b ∷ bs) s)) (steps_text_lem (at + 1) (s ∷ []) ss)

  module _ (rs : List Step) where
    abbrev given : Verdict
    given = input_fault nodes letters links d (length rs)

    pub ends_13 : eqb given.number 13 ≡ true → given ≡ steps_outcome nodes letters links d rs
    unfolding steps_outcome
    ends_13 e =
        let f : input_formed nodes letters links d (length rs) ≡ false = not-true _ (sym (is_13 (input_formed nodes letters links d (length rs)) (ids_once (nodes_of d.nodes nodes))) ∙ e) in
        rw f

    pub goes_on_lem : input_formed nodes letters links d (length rs) ≡ true → scanned (graph_of nodes [] links d) given rs ≡ steps_outcome nodes letters links d rs
    unfolding steps_outcome
    goes_on_lem t =
        ap (λ (w : Verdict). or_then (unless (all in_range rs) 13 0 0) (or_then given w)) (steps_text_lem 0 [] (map step_of rs))
        ∙ rw t
