-- The promises of what the public operations answer: check_transform, transform_walk and spell_walk on lent arrays.
use Rattle.std.specs.Prelude.{ℕ, ◌≤◌, ◌≡◌, true, false, cond, ◌&&◌, List, ltb, length, take}
use Rattle.letters.specs.Sequences.{same_spelling}
use Rattle.affix.specs.Prefix.{handles_of}
use Rattle.events.specs.declared.Used.{Used}
use Rattle.spelling.specs.Spelling.{spell_walk}
use Rattle.checking.specs.CheckTransform.{Lent, graph_in}
use Rattle.walking.specs.SpellWalk as s
use Rattle.walking.specs.TransformWalk as t
use Rattle.promises.specs.Walks.{Walk, live_walk}

abbrev pub spelled : Lent → List ℕ → List ℕ → s.Outcome
spelled g walk room = s.spell_outcome g.nodes g.letters g.links g.counts walk room

abbrev pub rewritten : Lent → List ℕ → List ℕ → Used → List ℕ → List ℕ → t.Outcome
rewritten old rules steps u walk room =
    t.transform_outcome old.nodes old.letters old.links old.counts rules steps u walk room

-- what stands at the front of the room after it
abbrev pub letters_in : s.Outcome → List ℕ
letters_in o = take o.answer.length o.room

abbrev pub walk_in : t.Outcome → List ℕ
walk_in o = take o.answer.length o.room

-- 0, or 7 for want of room
abbrev pub room_or7 : List ℕ → ℕ → ℕ
room_or7 room needed = cond (ltb (length room) needed) 7 0

-- an old walk and its new one: rewriting gives no number but 7 for room; given room, the new walk is live, spelling either
-- gives no number but 7 for the same room, and given it the letters are the same, case aside
pub record Rewrites (old new : Lent) (rules steps : List ℕ) (u : Used) (walk : List ℕ) : Type 0 where
  pub steps_needed : ℕ
  pub letters_needed : ℕ
  pub number : (room : List ℕ) → (rewritten old rules steps u walk room).answer.number ≡ room_or7 room steps_needed
  pub spell_old : (room : List ℕ) → (spelled old walk room).answer.number ≡ room_or7 room letters_needed
  pub lives : (room : List ℕ) → steps_needed ≤ length room → live_walk (graph_in new) (handles_of (walk_in (rewritten old rules steps u walk room))) ≡ true
  pub spell_new : (room letters : List ℕ) → steps_needed ≤ length room → (spelled new (walk_in (rewritten old rules steps u walk room)) letters).answer.number ≡ room_or7 letters letters_needed
  pub same : (room here there : List ℕ) → steps_needed ≤ length room → letters_needed ≤ length here → letters_needed ≤ length there → same_spelling (letters_in (spelled old walk here)) (letters_in (spelled new (walk_in (rewritten old rules steps u walk room)) there)) ≡ true

-- an old walk of one or two steps whose rewriting, given room, is not live or spells other letters
pub record Miswrites (old new : Lent) (rules steps : List ℕ) (u : Used) : Type 0 where
  pub walk : List ℕ
  pub short : length walk ≤ 2
  pub is_walk : Walk (graph_in old) (handles_of walk)
  pub steps_needed : ℕ
  pub number : (room : List ℕ) → (rewritten old rules steps u walk room).answer.number ≡ room_or7 room steps_needed
  pub wrongly : (room : List ℕ) → steps_needed ≤ length room → (live_walk (graph_in new) (handles_of (walk_in (rewritten old rules steps u walk room))) && same_spelling (spell_walk (graph_in old) (handles_of walk)) (spell_walk (graph_in new) (handles_of (walk_in (rewritten old rules steps u walk room))))) ≡ false
