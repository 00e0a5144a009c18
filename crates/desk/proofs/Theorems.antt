-- What the program writes where nothing is refused: header, live graph and paths as one text; the table of the old graph.
use Prim.Native.Nat.{ℕ, ◌+◌}
use mathlib.Core.Path.{◌≡◌, refl, sym, ap, ap₂, ◌∙◌}
use mathlib.Core.Bool.{Bool, true, false, cond, not}
use mathlib.Core.List.{List, ◌++◌}
use native.Mathlib.Omega.{arith}
use borrow.Author.Tests.{eqb-false}
use lib.Dec.{eqb, ltb}
use lib.ListN.{length, take, drop, length-append}
use Rattle.std.specs.Prelude.{None}
use Rattle.kit.proofs.Bools.{tests, never}
use lib.Seq.{sets, take-append_seam, take-append-add}
use Rattle.store.specs.Graph.{nodes_of}
use Rattle.events.specs.declared.Used.{Used}
use Rattle.events.specs.Events.{list_of}
use Rattle.formed.specs.WellFormed.{graph_number}
use Rattle.rewriting.specs.Rewriting.{old_number}
use Rattle.writing.specs.Outcome.{Outcome, outcome, refused, writing}
use Rattle.writing.specs.GraphText.{graph_text}
use Rattle.writing.specs.TableText.{table_text}
use Rattle.paths.specs.PathText.{paths_text, paths_number}
use Rattle.texts.specs.PrintActiveSubgraph.{subgraph_outcome}
use Rattle.texts.specs.PrintTransformations.{table_outcome}
use Rattle.texts.specs.ParseAndTransformPaths.{paths_outcome}
use Rattle.checking.specs.CheckTransform.{Lent, lent, graph_in}
use Rattle.desk.specs.Page.{head_text, page_text, and_then, headed_outcome, page_outcome}
use Rattle.reading.specs.Reading.{Store}
use Rattle.reading.specs.Outcome as reading
use Rattle.collapsing.specs.Outcome as collapsing
use Rattle.driver.specs.Outcome as driver
use Rattle.folding.specs.CollapseAll.{collapse_all_outcome}
use Rattle.walking.specs.Expand as walking
use Rattle.walking.specs.Expand.{expand_outcome}
use Rattle.desk.specs.declared.work.Source.{Source}
use Rattle.desk.specs.declared.work.Source.TheVariants.{Text, Protected, Room}
use Rattle.desk.specs.Desk.{Told, told, Finished, finished, finish_outcome, refusal, goes_on, judged, no_events, taken_outcome, tell_outcome, expand_outcome_then, drive_then, lay_then, desk_outcome}

-- not refused, it wrote this text at the front of its room
pub record Wrote (text : List ℕ) (o : Outcome) : Type 0 where
  pub many : o.answer.len ≡ length text
  pub front : take (length text) o.room ≡ text

abbrev pub Writes : List ℕ → Outcome → Type 0
Writes text o = o.answer.number ≡ 0 → Wrote text o

writing_writes : (text room : List ℕ) → Writes text (writing text room)
writing_writes text room = by (ltb (length room) (length text))
  where
    by : (b : Bool) → Writes text (cond b (refused 7 room) (outcome (record { number = 0; len = length text }) (text ++ drop (length text) room)))
    by true e = absurd (omega (arith, e))
    by false e = record { many = refl; front = take-append_seam text (drop (length text) room) }

-- a number that is not 0 is a refusal
unless-refused : (number : ℕ) (text room : List ℕ) (o : Outcome) → Writes text o → Writes text (cond (not (eqb number 0)) (refused number room) o)
unless-refused number text room o w = by (eqb number 0) refl
  where
    by : (b : Bool) → eqb number 0 ≡ b → Writes text (cond (not b) (refused number room) o)
    by true q e = w e
    by false q e = absurd (eqb-false number 0 q e)

-- one text after another
module _ (s t : List ℕ) (p : Outcome) (next : List ℕ → Outcome) where
  abbrev n : ℕ
  n = p.answer.len

  abbrev o : Outcome
  o = next (drop n p.room)

  abbrev both : Outcome
  both = outcome (record { number = 0; len = n + o.answer.len }) (take n p.room ++ o.room)

  seam : Wrote s p → Wrote t o → Wrote (s ++ t) both
  seam a b =
      let first : take n p.room ≡ s = ap (λ (k : ℕ). take k p.room) a.many ∙ a.front in
      record {
        many = ap₂ (λ (k m : ℕ). k + m) a.many b.many ∙ sym (length-append s t);
        front =
            ap₂ (λ (k : ℕ) (l : List ℕ). take k (l ++ o.room)) (length-append s t) first
            ∙ take-append-add s o.room (length t)
            ∙ ap (λ (l : List ℕ). s ++ l) b.front;
      }

  and_then_lem : Writes s p → Writes t o → Writes (s ++ t) (and_then p next)
  and_then_lem v w = by (eqb p.answer.number 0) refl
    where
      last : p.answer.number ≡ 0 → (b : Bool) → eqb o.answer.number 0 ≡ b → Writes (s ++ t) (cond (not b) (refused o.answer.number (take n p.room ++ o.room)) both)
      last z true q e = seam (v z) (w (omega (arith, tests)))
      last z false q e = absurd (eqb-false o.answer.number 0 q e)

      by : (b : Bool) → eqb p.answer.number 0 ≡ b → Writes (s ++ t) (cond (not b) p (cond (not (eqb o.answer.number 0)) (refused o.answer.number (take n p.room ++ o.room)) both))
      by true q e = last (omega (arith, tests)) (eqb o.answer.number 0) refl e
      by false q e = absurd (eqb-false p.answer.number 0 q e)

subgraph_writes : (l : Lent) (room : List ℕ) → Writes (graph_text (graph_in l)) (subgraph_outcome l.nodes l.letters l.links l.counts room)
unfolding subgraph_outcome
subgraph_writes l room =
    unless-refused (graph_number l.nodes l.letters l.links l.counts) (graph_text (graph_in l)) room _ (writing_writes (graph_text (graph_in l)) room)

module _ (text : List ℕ) (old : Lent) (rules steps : List ℕ) (u : Used) where
  paths_writes : (room : List ℕ) → Writes (paths_text (graph_in old) (list_of rules steps u) text) (paths_outcome text old.nodes old.letters old.links old.counts rules steps u room)
  unfolding paths_outcome
  paths_writes room =
      let new = paths_text (graph_in old) (list_of rules steps u) text in
      unless-refused (old_number old.nodes old.letters old.links old.counts rules steps u) new room _
      (unless-refused (paths_number (nodes_of old.counts.nodes old.nodes) text) new room _ (writing_writes new room))

  -- the table is that of the old graph
  pub table_writes : (room : List ℕ) → Writes (table_text (graph_in old) (list_of rules steps u)) (table_outcome old.nodes old.letters old.links old.counts rules steps u room)
  unfolding table_outcome
  table_writes room =
      unless-refused (old_number old.nodes old.letters old.links old.counts rules steps u) (table_text (graph_in old) (list_of rules steps u)) room _
      (writing_writes (table_text (graph_in old) (list_of rules steps u)) room)

  headed_writes : (new : Lent) (room : List ℕ) → Writes (head_text text ++ graph_text (graph_in new)) (headed_outcome text new room)
  unfolding headed_outcome
  headed_writes new room =
      and_then_lem (head_text text) (graph_text (graph_in new)) (writing (head_text text) room) (subgraph_outcome new.nodes new.letters new.links new.counts)
      (writing_writes (head_text text) room)
      (subgraph_writes new _)

  -- header, the new graph, the old paths rewritten
  pub page_writes : (new : Lent) (room : List ℕ) → Writes (page_text text (graph_in old) (graph_in new) (list_of rules steps u)) (page_outcome text old new rules steps u room)
  unfolding page_outcome
  page_writes new room =
      and_then_lem (head_text text ++ graph_text (graph_in new)) (paths_text (graph_in old) (list_of rules steps u) text) (headed_outcome text new room)
      (paths_outcome text old.nodes old.letters old.links old.counts rules steps u)
      (headed_writes new room)
      (paths_writes _)

-- what the program hands on: the page and the table, whole
pub record Hands (page table : List ℕ) (o : Told) : Type 0 where
  pub page_is : take o.answer.page o.page ≡ page
  pub table_is : take o.answer.table o.table ≡ table

whole : {text : List ℕ} {o : Outcome} → Wrote text o → take o.answer.len o.room ≡ text
whole {text} {o} w = ap (λ (k : ℕ). take k o.room) w.many ∙ w.front

module _ (text : List ℕ) (old new : Lent) (rules steps : List ℕ) (u : Used) (protected : List ℕ) (check : Bool) (stopped : ℕ) (page table : List ℕ) where
  abbrev p : Outcome
  p = page_outcome text old new rules steps u page

  abbrev t : Outcome
  t = table_outcome old.nodes old.letters old.links old.counts rules steps u table

  abbrev ended : Finished
  ended =
      finished
      (record {
        number = 0;
        source = None;
        stopped = stopped;
        page = p.answer.len;
        table = t.answer.len;
        verdict = judged check old new rules steps u protected;
      })
      t.room

  abbrev Handed : Told → Type 0
  Handed o = o.answer.number ≡ 0 → Hands (page_text text (graph_in old) (graph_in new) (list_of rules steps u)) (table_text (graph_in old) (list_of rules steps u)) o

  abbrev after : Finished → Told
  after f = told f.answer p.room f.table

  pub tell_hands : Handed (tell_outcome text old new rules steps u protected check stopped page table)
  unfolding tell_outcome finish_outcome
  tell_hands = by (eqb p.answer.number 0) refl
    where
      last : p.answer.number ≡ 0 → (b : Bool) → eqb t.answer.number 0 ≡ b → Handed (after (cond (not b) (finished (refusal Room t.answer.number) t.room) ended))
      last z true q e =
          record {
            page_is = whole (page_writes text old rules steps u new page z);
            table_is = whole (table_writes text old rules steps u table (omega (arith, tests)));
          }
      last z false q e = absurd (eqb-false t.answer.number 0 q e)

      by : (b : Bool) → eqb p.answer.number 0 ≡ b → Handed (cond (not b) (told (refusal Room p.answer.number) p.room table) (after (cond (not (eqb t.answer.number 0)) (finished (refusal Room t.answer.number) t.room) ended)))
      by true q e = last (omega (arith, tests)) (eqb t.answer.number 0) refl e
      by false q e = absurd (eqb-false p.answer.number 0 q e)

-- a stage that refuses hands on nothing; else what the next one does
module _ (page table : List ℕ) where
  abbrev Ends : Told → Type 0
  Ends o = o.answer.number ≡ 0 → Hands page table o

  unless : (source : Source) (number : ℕ) (m n : List ℕ) (o : Told) → Ends o → Ends (cond (not (eqb number 0)) (told (refusal source number) m n) o)
  unless source number m n o d = by (eqb number 0) refl
    where
      by : (b : Bool) → eqb number 0 ≡ b → Ends (cond (not b) (told (refusal source number) m n) o)
      by true q e = d e
      by false q e = absurd (eqb-false number 0 q e)

  unless-stopped : (protected : List ℕ) (number : ℕ) (m n : List ℕ) (o : Told) → Ends o → Ends (cond (not (goes_on protected number)) (told (refusal Protected number) m n) o)
  unless-stopped protected number m n o d = by (goes_on protected number) refl
    where
      by : (b : Bool) → goes_on protected number ≡ b → Ends (cond (not b) (told (refusal Protected number) m n) o)
      by true q e = d e
      by false q e = never (sym (ap (goes_on protected) e) ∙ q)

  unless-small : (b : Bool) (m n : List ℕ) (o : Told) → Ends o → Ends (cond b (told (refusal Room 7) m n) o)
  unless-small true m n o d e = absurd (omega (arith, e))
  unless-small false m n o d e = d e

-- the whole run: the old graph as it was read, the new one and its events as the driver left them, the table of those events
module _ (text protected : List ℕ) (check : Bool) (rooms : Store) (large : collapsing.Lent) (rules steps page table : List ℕ) where
  abbrev read : reading.Outcome
  read = taken_outcome rooms text

  abbrev pub old_graph : Lent
  old_graph = lent read.arrays.nodes read.arrays.letters read.arrays.links read.answer.counts

  abbrev driven : driver.Outcome
  driven =
      collapse_all_outcome
      (collapsing.lent (sets large.nodes 0 old_graph.nodes) (sets large.links 0 old_graph.links) large.rules large.steps)
      old_graph.letters old_graph.counts no_events protected

  abbrev pub new_graph : Lent
  new_graph = lent driven.arrays.nodes old_graph.letters driven.arrays.links driven.answer.counts

  abbrev pub rules_out : walking.Outcome
  rules_out = expand_outcome driven.arrays.rules driven.arrays.steps driven.answer.used rules steps

  abbrev pub made_page : List ℕ
  made_page = page_text text (graph_in old_graph) (graph_in new_graph) (list_of rules_out.rules rules_out.steps rules_out.answer.used)

  abbrev pub made_table : List ℕ
  made_table = table_text (graph_in old_graph) (list_of rules_out.rules rules_out.steps rules_out.answer.used)

  pub desk_hands : (desk_outcome text protected check rooms large rules steps page table).answer.number ≡ 0 → Hands made_page made_table (desk_outcome text protected check rooms large rules steps page table)
  unfolding desk_outcome lay_then drive_then expand_outcome_then
  desk_hands =
      unless made_page made_table Text read.answer.number page table _
      (unless-small made_page made_table (ltb (length large.nodes) (length old_graph.nodes)) page table _
      (unless-small made_page made_table (ltb (length large.links) (length old_graph.links)) page table _
      (unless-stopped made_page made_table protected driven.answer.number page table _
      (unless made_page made_table Room rules_out.answer.number page table _
      (tell_hands text old_graph new_graph rules_out.rules rules_out.steps rules_out.answer.used protected check driven.answer.number page table)))))
