-- A run of the program, over the outcomes of the public operations: read, collapse all, expand, write, check.
use Rattle.std.specs.Prelude.{ℕ, ◌≡◌, Bool, cond, not, ◌&&◌, ◌||◌, List, eqb, leb, ltb, length, Option, Some, None}
use Rattle.std.proofs.Common.{sym, ◌∙◌}
use Rattle.std.proofs.lemmas.List.Edits.{sets}
use Rattle.events.specs.declared.Used.{Used}
use Rattle.reading.specs.Reading.{Store}
use Rattle.reading.specs.Outcome as reading
use Rattle.reading.specs.Outcome.{read_outcome}
use Rattle.texts.specs.PrintTransformations.{table_outcome}
use Rattle.scanning.specs.declared.Verdict.{Verdict}
use Rattle.scanning.specs.Rules.{verdict}
use Rattle.collapsing.specs.Outcome as collapsing
use Rattle.folding.specs.CollapseAll.{collapse_all_outcome}
use Rattle.walking.specs.Expand.{expand_outcome}
use Rattle.checking.specs.CheckTransform.{Lent, lent, check_outcome}
use Rattle.desk.specs.Page.{page_outcome}
use Rattle.desk.specs.declared.work.Source.{Source}
use Rattle.desk.specs.declared.work.Source.TheVariants.{Text, Protected, Room}
use Rattle.desk.specs.declared.work.Done as declared

-- 01 "Nodes, letters, links", the program's limits: a text of more than 65,536 bytes is 7 before anything else. The other
-- limits are the lengths of the rooms.
unfoldable pub taken_outcome : Store → List ℕ → reading.Outcome
taken_outcome l text =
    cond (ltb 65536 (length text))
    (reading.outcome (record { number = 7; counts = record { nodes = 0; letters = 0; links = 0 } }) l)
    (read_outcome l text)

-- what a run answers
abbrev pub Done : Type 0
Done = declared.Done (Option Source)

-- the answer, and the rooms for what is written
pub record Told : Type 0 where
  pub answer : Done
  pub page : List ℕ
  pub table : List ℕ

abbrev pub told : Done → List ℕ → List ℕ → Told
told answer page table = record { answer = answer; page = page; table = table }

-- a refusal, and what it is of: the graph's text, the protected list, or the rooms
abbrev pub refusal : Source → ℕ → Done
refusal source number =
    record { number = number; source = Some source; stopped = 0; page = 0; table = 0; verdict = verdict 0 0 0 }

-- 01 "Numbers that say no": a driver that is stopped on its way keeps what it made, so the run goes on with it. It is stopped
-- by 7 or 11 only; its other numbers are refusals before the first collapse, and so is its 7 of more than 4,096 protected ids
abbrev pub goes_on : List ℕ → ℕ → Bool
goes_on protected number = eqb number 0 || (leb (length protected) 4096 && (eqb number 7 || eqb number 11))

-- the checker, on the old graph, the new one and the table, where it is asked for
abbrev pub judged : Bool → Lent → Lent → List ℕ → List ℕ → Used → List ℕ → Verdict
judged check old new rules steps u protected =
    cond check (check_outcome old new rules steps u protected) (verdict 0 0 0)

-- the answer, and the room for the table
pub record Finished : Type 0 where
  pub answer : Done
  pub table : List ℕ

abbrev pub finished : Done → List ℕ → Finished
finished answer table = record { answer = answer; table = table }

-- after a page of this length the table, which is that of the old graph, and the checker
unfoldable pub finish_outcome : ℕ → Lent → Lent → List ℕ → List ℕ → Used → List ℕ → Bool → ℕ → List ℕ → Finished
finish_outcome len old new rules steps u protected check stopped table =
    let t = table_outcome old.nodes old.letters old.links old.counts rules steps u table in
    cond (not (eqb t.answer.number 0)) (finished (refusal Room t.answer.number) t.room)
    (finished
    (record {
      number = 0;
      source = None;
      stopped = stopped;
      page = len;
      table = t.answer.len;
      verdict = judged check old new rules steps u protected;
    })
    t.room)

-- page and table are written before anything is told
unfoldable pub tell_outcome : List ℕ → Lent → Lent → List ℕ → List ℕ → Used → List ℕ → Bool → ℕ → List ℕ → List ℕ → Told
tell_outcome text old new rules steps u protected check stopped page table =
    let p = page_outcome text old new rules steps u page in
    let f = finish_outcome p.answer.len old new rules steps u protected check stopped table in
    cond (not (eqb p.answer.number 0)) (told (refusal Room p.answer.number) p.room table)
    (told f.answer p.room f.table)

-- the table from the events
unfoldable pub expand_outcome_then : List ℕ → Lent → Lent → List ℕ → List ℕ → Used → List ℕ → Bool → ℕ → List ℕ → List ℕ → List ℕ → List ℕ → Told
expand_outcome_then text old new eventRules eventSteps u protected check stopped rules steps page table =
    let e = expand_outcome eventRules eventSteps u rules steps in
    cond (not (eqb e.answer.number 0)) (told (refusal Room e.answer.number) page table)
    (tell_outcome text old new e.rules e.steps e.answer.used protected check stopped page table)

abbrev pub no_events : Used
no_events = record { rules = 0; steps = 0 }

-- the new graph and its events from the old graph, by the driver
unfoldable pub drive_then : List ℕ → Lent → collapsing.Lent → List ℕ → Bool → List ℕ → List ℕ → List ℕ → List ℕ → Told
drive_then text old new protected check rules steps page table =
    let d = collapse_all_outcome new old.letters old.counts no_events protected in
    let made = lent d.arrays.nodes old.letters d.arrays.links d.answer.counts in
    cond (not (goes_on protected d.answer.number)) (told (refusal Protected d.answer.number) page table)
    (expand_outcome_then text old made d.arrays.rules d.arrays.steps d.answer.used protected check d.answer.number rules steps page table)

-- the old graph at the front of larger rooms; 7 where they are shorter
unfoldable pub lay_then : List ℕ → Lent → collapsing.Lent → List ℕ → Bool → List ℕ → List ℕ → List ℕ → List ℕ → Told
lay_then text old new protected check rules steps page table =
    cond (ltb (length new.nodes) (length old.nodes)) (told (refusal Room 7) page table)
    (cond (ltb (length new.links) (length old.links)) (told (refusal Room 7) page table)
    (drive_then text old
    (collapsing.lent (sets new.nodes 0 old.nodes) (sets new.links 0 old.links) new.rules new.steps)
    protected check rules steps page table))

-- the whole run
unfoldable pub desk_outcome : List ℕ → List ℕ → Bool → Store → collapsing.Lent → List ℕ → List ℕ → List ℕ → List ℕ → Told
desk_outcome text protected check old new rules steps page table =
    let r = taken_outcome old text in
    let l = r.arrays in
    cond (not (eqb r.answer.number 0)) (told (refusal Text r.answer.number) page table)
    (lay_then text (lent l.nodes l.letters l.links r.answer.counts) new protected check rules steps page table)

-- two outcomes that the statement allows are equal
pub one-outcome : (text protected : List ℕ) (check : Bool) (old : Store) (new : collapsing.Lent) (rules steps page table : List ℕ) (x y : Told) → x ≡ desk_outcome text protected check old new rules steps page table → y ≡ desk_outcome text protected check old new rules steps page table → x ≡ y
one-outcome text protected check old new rules steps page table x y e f = e ∙ sym f

-- how a run ends, whatever its source is: 1 refused, also where the driver was stopped on its way; 3 where the checker
-- found a fault; else 0
abbrev pub status_of : {S : Type 0} → declared.Done S → ℕ
status_of d =
    cond (not (eqb d.number 0)) 1
    (cond (not (eqb d.verdict.number 0)) 3
    (cond (not (eqb d.stopped 0)) 1
    0))
