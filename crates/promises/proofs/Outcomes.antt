-- Demand 3 of what the public operations answer.
use Prim.Native.Nat.{ℕ, ◌≤◌}
use mathlib.Core.Path.{◌≡◌, refl, sym, ap, ap₂, ◌∙◌, subst}
use mathlib.Core.Bool.{Bool, true, false, cond, not, ◌&&◌}
use mathlib.Core.List.{List, [], ◌++◌, map-map, map-id}
use native.Mathlib.Omega.{arith}
use borrow.Author.Tests.{eqb-true, le-ltb}
use lib.Dec.{eqb, ltb}
use lib.ListN.{length, take, drop}
use lib.Seq.{take-append_seam}
use Rattle.kit.specs.Loops.{all, distinct}
use Rattle.kit.proofs.Bools.{tests, and_true_l, and_true_r}
use Rattle.letters.specs.Sequences.{same_spelling}
use Rattle.letters.proofs.Sequences.{same_length}
use Rattle.handle.specs.declared.Handle.{Handle}
use Rattle.store.specs.Graph.{handle}
use Rattle.store.specs.Views.{stored}
use Rattle.formed.specs.WellFormed.{room_for, good_graph, well_formed, unmarked, old_formed, ids_once, graph_number}
use Rattle.affix.specs.Prefix.{handles_of}
use Rattle.groups.specs.Groups.{numbers, over}
use Rattle.events.specs.declared.Used.{Used}
use Rattle.events.specs.Events.{list_of, rules_of}
use Rattle.events.specs.WellFormed.{room_for_rules, good_table, table_formed, keys_once}
use Rattle.spelling.specs.Spelling.{spell_walk}
use Rattle.rewriting.specs.Rewriting.{old_number, transform_walk}
use Rattle.rewriting.proofs.Images.{length-numbers}
use Rattle.scanning.specs.declared.Verdict.{Verdict}
use Rattle.scanning.specs.Rules.{verdict}
use Rattle.verdict.specs.Conditions.{conditions_fault}
use Rattle.checking.specs.CheckTransform.{Lent, graph_in, input_number, check_outcome}
use Rattle.walking.specs.SpellWalk as s
use Rattle.walking.specs.TransformWalk as t
use Rattle.promises.specs.Walks.{Walk, live_walk, rewrites_rightly, Formed, TrueTo}
use Rattle.promises.specs.Outcomes.{spelled, rewritten, letters_in, walk_in, room_or7, Rewrites, Miswrites}
use Rattle.promises.proofs.Live.{live-is_walk}
use Rattle.promises.proofs.Rewrites.{yes_rewrites}
use Rattle.promises.proofs.No.{no_is_wrong}

-- tests in a row, each with its number: none fails, and none gives more than 13
passed : (b : Bool) (n rest : ℕ) → 1 ≤ n → cond (not b) n rest ≡ 0 → (b ≡ true) × (rest ≡ 0)
passed true n rest h e = (refl, e)
passed false n rest h e = absurd (omega arith)

at_most : (b : Bool) (n rest : ℕ) → n ≤ 13 → rest ≤ 13 → cond (not b) n rest ≤ 13
at_most true n rest h k = k
at_most false n rest h k = h

-- the input's own number comes first
yes_parts : (n : ℕ) (v : Verdict) (b : Bool) → eqb n 0 ≡ b → (cond (not b) (verdict n 0 0) v).number ≡ 0 → (n ≡ 0) × (v.number ≡ 0)
yes_parts n v true e q = (eqb-true n 0 e, q)
yes_parts n v false e q = absurd (omega (arith, tests))

no_parts : (n : ℕ) (v : Verdict) (b : Bool) → eqb n 0 ≡ b → n ≤ 13 → 20 ≤ (cond (not b) (verdict n 0 0) v).number → (n ≡ 0) × (20 ≤ v.number)
no_parts n v true e h q = (eqb-true n 0 e, q)
no_parts n v false e h q = absurd (omega arith)

handles-numbers : (hs : List Handle) → handles_of (numbers hs) ≡ hs
handles-numbers hs = map-map handle (λ h. h.packed) hs ∙ map-id hs

-- spelling a walk of a well-formed graph
module _ (g : Lent) (walk : List ℕ) (ok : graph_number g.nodes g.letters g.links g.counts ≡ 0) (w : Walk (graph_in g) (handles_of walk)) where
  abbrev letters : List ℕ
  letters = spell_walk (graph_in g) (handles_of walk)

  spelled_is : (room : List ℕ) → spelled g walk room ≡ s.given letters room
  unfolding s.spell_outcome
  spelled_is room = rw (ok, w.over_nodes, w.over_links)

  spelled-number : (room : List ℕ) → (spelled g walk room).answer.number ≡ room_or7 room (length letters)
  spelled-number room = ap (λ (o : s.Outcome). o.answer.number) (spelled_is room) ∙ by (ltb (length room) (length letters))
    where
      by : (b : Bool) → (cond b (s.refused 7 0 room) (s.outcome (s.answer 0 0 (length letters)) (letters ++ drop (length letters) room))).answer.number ≡ cond b 7 0
      by true = refl
      by false = refl

  spelled-letters : (room : List ℕ) → length letters ≤ length room → letters_in (spelled g walk room) ≡ letters
  spelled-letters room h =
      ap letters_in (spelled_is room)
      ∙ ap (λ (b : Bool). letters_in (cond b (s.refused 7 0 room) (s.outcome (s.answer 0 0 (length letters)) (letters ++ drop (length letters) room)))) (le-ltb (length room) (length letters) h)
      ∙ take-append_seam letters (drop (length letters) room)

-- rewriting a walk of a well-formed old graph by a well-formed table
module _ (old : Lent) (rules steps : List ℕ) (u : Used) (walk : List ℕ) (ok : old_number old.nodes old.letters old.links old.counts rules steps u ≡ 0) (w : Walk (graph_in old) (handles_of walk)) where
  abbrev made : List Handle
  made = transform_walk (graph_in old) (list_of rules steps u) (handles_of walk)

  abbrev outcome_if : Bool → List ℕ → t.Outcome
  outcome_if b room = cond b (t.refused 7 room) (t.outcome (t.answer 0 (length made)) (over (numbers made) room))

  rewritten_is : (room : List ℕ) → rewritten old rules steps u walk room ≡ outcome_if (ltb (length room) (length made)) room
  unfolding t.transform_outcome
  rewritten_is room = rw (ok, w.over_nodes)

  rewritten-number : (room : List ℕ) → (rewritten old rules steps u walk room).answer.number ≡ room_or7 room (length made)
  rewritten-number room = ap (λ (o : t.Outcome). o.answer.number) (rewritten_is room) ∙ by (ltb (length room) (length made))
    where
      by : (b : Bool) → (outcome_if b room).answer.number ≡ cond b 7 0
      by true = refl
      by false = refl

  rewritten_walk : (room : List ℕ) → length made ≤ length room → handles_of (walk_in (rewritten old rules steps u walk room)) ≡ made
  rewritten_walk room h =
      ap handles_of
      (ap walk_in (rewritten_is room)
      ∙ ap (λ (b : Bool). walk_in (outcome_if b room)) (le-ltb (length room) (length made) h)
      ∙ ap (λ (n : ℕ). take n (over (numbers made) room)) (sym (length-numbers made))
      ∙ take-append_seam (numbers made) (drop (length (numbers made)) room))
      ∙ handles-numbers made

-- what the checker's input is where it gives none of 13, 5 and 6
record Inputs (old new : Lent) (rules steps : List ℕ) (u : Used) : Type 0 where
  formed : Formed (graph_in old) (graph_in new) (list_of rules steps u)
  rewrites : old_number old.nodes old.letters old.links old.counts rules steps u ≡ 0
  spells_old : graph_number old.nodes old.letters old.links old.counts ≡ 0
  spells_new : graph_number new.nodes new.letters new.links new.counts ≡ 0

module _ (old new : Lent) (rules steps : List ℕ) (u : Used) (protected : List ℕ) where
  abbrev old_formed_lem : Bool
  old_formed_lem = old_formed old.nodes old.letters old.links old.counts

  abbrev formed_of : Lent → Bool
  formed_of g = well_formed g.nodes g.letters g.links g.counts

  abbrev good_of : (g : Lent) → formed_of g ≡ true → good_graph (graph_in g) ≡ true
  good_of g e = and_true_r (room_for g.nodes g.letters g.links g.counts) (good_graph (graph_in g)) e

  inputs : input_number old new rules steps u protected ≡ 0 → Inputs old new rules steps u
  inputs e =
      let a = passed old_formed_lem 13 _ (omega arith) e in
      let b = passed (formed_of new) 13 _ (omega arith) a.1 in
      let c = passed (table_formed rules steps u) 13 _ (omega arith) b.1 in
      let d = passed (ids_once (graph_in old).nodes) 5 _ (omega arith) c.1 in
      let f = passed (ids_once (graph_in new).nodes) 5 _ (omega arith) d.1 in
      let k = passed (keys_once (rules_of u.rules rules)) 5 _ (omega arith) f.1 in
      let o = and_true_l (formed_of old) (unmarked (graph_in old)) a.0 in
      record {
        formed = record {
          old_good = good_of old o;
          new_good = good_of new b.0;
          table_good = and_true_r (room_for_rules rules steps u) (good_table (list_of rules steps u)) c.0;
          old_once = d.0;
          new_once = f.0;
          keys_once = k.0;
        };
        rewrites = rw (a.0, c.0, d.0, k.0);
        spells_old = rw (o, d.0);
        spells_new = rw (b.0, f.0);
      }

  input_small : input_number old new rules steps u protected ≤ 13
  input_small =
      at_most old_formed_lem 13 _ (omega arith)
      (at_most (formed_of new) 13 _ (omega arith)
      (at_most (table_formed rules steps u) 13 _ (omega arith)
      (at_most (ids_once (graph_in old).nodes) 5 _ (omega arith)
      (at_most (ids_once (graph_in new).nodes) 5 _ (omega arith)
      (at_most (keys_once (rules_of u.rules rules)) 5 _ (omega arith)
      (at_most (distinct eqb protected) 5 _ (omega arith)
      (at_most (all (λ id. stored id (graph_in old).nodes) protected) 6 0 (omega arith) (omega arith))))))))

  abbrev fault : Verdict
  fault = conditions_fault (graph_in old) (graph_in new) (list_of rules steps u) protected

  check_yes : (check_outcome old new rules steps u protected).number ≡ 0 → (input_number old new rules steps u protected ≡ 0) × (fault.number ≡ 0)
  unfolding check_outcome
  check_yes e = yes_parts (input_number old new rules steps u protected) fault (eqb (input_number old new rules steps u protected) 0) refl e

  check_no : 20 ≤ (check_outcome old new rules steps u protected).number → (input_number old new rules steps u protected ≡ 0) × (20 ≤ fault.number)
  unfolding check_outcome
  check_no e = no_parts (input_number old new rules steps u protected) fault (eqb (input_number old new rules steps u protected) 0) refl input_small e

-- the new walk, wherever there is room for it
module _ (old new : Lent) (rules steps : List ℕ) (u : Used) (walk : List ℕ) (i : Inputs old new rules steps u) (w : Walk (graph_in old) (handles_of walk)) where
  abbrev image : List Handle
  image = made old rules steps u walk i.rewrites w

  abbrev after : List ℕ → List ℕ
  after room = walk_in (rewritten old rules steps u walk room)

  abbrev old_letters : List ℕ
  old_letters = spell_walk (graph_in old) (handles_of walk)

  abbrev new_letters : List ℕ
  new_letters = spell_walk (graph_in new) image

  module _ (right : rewrites_rightly (graph_in old) (graph_in new) (list_of rules steps u) (handles_of walk) ≡ true) where
    same : same_spelling old_letters new_letters ≡ true
    same = and_true_r (live_walk (graph_in new) image) (same_spelling old_letters new_letters) right

    module _ (room : List ℕ) (fits : length image ≤ length room) where
      is_image : handles_of (after room) ≡ image
      is_image = rewritten_walk old rules steps u walk i.rewrites w room fits

      lives : live_walk (graph_in new) (handles_of (after room)) ≡ true
      lives = ap (live_walk (graph_in new)) is_image ∙ and_true_l (live_walk (graph_in new) image) (same_spelling old_letters new_letters) right

      new_walk_lem : Walk (graph_in new) (handles_of (after room))
      new_walk_lem = live-is_walk (graph_in new) (handles_of (after room)) lives

      long : length (spell_walk (graph_in new) (handles_of (after room))) ≡ length old_letters
      long = ap (λ (hs : List Handle). length (spell_walk (graph_in new) hs)) is_image ∙ sym (same_length old_letters new_letters same)

      spelled-new : (there : List ℕ) → length old_letters ≤ length there → letters_in (spelled new (after room) there) ≡ new_letters
      spelled-new there k =
          spelled-letters new (after room) i.spells_new new_walk_lem there (omega (arith, long)) ∙ ap (spell_walk (graph_in new)) is_image

    promises : Rewrites old new rules steps u walk
    promises =
        record {
          steps_needed = length image;
          letters_needed = length old_letters;
          number = rewritten-number old rules steps u walk i.rewrites w;
          spell_old = spelled-number old walk i.spells_old w;
          lives = lives;
          spell_new = λ room there k. spelled-number new (after room) i.spells_new (new_walk_lem room k) there ∙ ap (room_or7 there) (long room k);
          same = λ room here there k m n. ap₂ same_spelling (spelled-letters old walk i.spells_old w here m) (spelled-new room k there n) ∙ same;
        }

pub yes_promises : (old new : Lent) (rules steps : List ℕ) (u : Used) (protected walk : List ℕ) → (check_outcome old new rules steps u protected).number ≡ 0 → Walk (graph_in old) (handles_of walk) → Rewrites old new rules steps u walk
yes_promises old new rules steps u protected walk e w =
    let p = check_yes old new rules steps u protected e in
    let i = inputs old new rules steps u protected p.0 in
    promises old new rules steps u walk i w
    (yes_rewrites (graph_in old) (graph_in new) (list_of rules steps u) protected i.formed p.1 (handles_of walk) w)

pub no_promises : (old new : Lent) (rules steps : List ℕ) (u : Used) → TrueTo (graph_in old) (graph_in new) (list_of rules steps u) → 20 ≤ (check_outcome old new rules steps u []).number → Miswrites old new rules steps u
no_promises old new rules steps u true-to e =
    let p = check_no old new rules steps u [] e in
    let i = inputs old new rules steps u [] p.0 in
    let g = graph_in old in
    let h = graph_in new in
    let t = list_of rules steps u in
    let z = no_is_wrong g h t i.formed true-to (λ q. omega (arith, p.1)) in
    let walk = numbers z.walk in
    let back = handles-numbers z.walk in
    let w = subst (Walk g) (sym back) z.is_walk in
    let wrongly : rewrites_rightly g h t (handles_of walk) ≡ false = ap (rewrites_rightly g h t) back ∙ z.wrongly in
    record {
      walk = walk;
      short = omega (arith, length-numbers z.walk, z.short);
      is_walk = w;
      steps_needed = length (made old rules steps u walk i.rewrites w);
      number = rewritten-number old rules steps u walk i.rewrites w;
      wrongly = λ room k.
          ap (λ (m : List Handle). live_walk h m && same_spelling (spell_walk g (handles_of walk)) (spell_walk h m)) (rewritten_walk old rules steps u walk i.rewrites w room k)
          ∙ wrongly;
    }
