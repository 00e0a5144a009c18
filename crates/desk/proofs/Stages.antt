-- A run, stage by stage: what each has come to, as far as its tests have gone.
use Prim.Native.Nat.{ℕ, ◌≤◌, ◌<◌}
use mathlib.Core.Path.{◌≡◌, ap}
use mathlib.Core.Bool.{Bool, true, false}
use mathlib.Core.List.{List}
use native.Mathlib.Omega.{arith}
use borrow.Author.Tests.{ne_eqb, lt-ltb, le-ltb}
use lib.ListN.{length}
use lib.Seq.{sets}
use Rattle.std.specs.Prelude.{None}
use Rattle.events.specs.declared.Used.{Used}
use Rattle.reading.specs.Reading.{Store}
use Rattle.reading.specs.declared.Read.{Read}
use Rattle.reading.specs.Outcome as reading
use Rattle.writing.specs.declared.Written.{Written}
use Rattle.writing.specs.Outcome.{outcome}
use Rattle.texts.specs.PrintTransformations.{table_outcome}
use Rattle.scanning.specs.declared.Verdict.{Verdict}
use Rattle.collapsing.specs.Outcome as collapsing
use Rattle.driver.specs.declared.Driven.{Driven}
use Rattle.driver.specs.Outcome as driver
use Rattle.folding.specs.CollapseAll.{collapse_all_outcome}
use Rattle.walking.specs.declared.expand.Expanded.{Expanded}
use Rattle.walking.specs.Expand as expand
use Rattle.walking.specs.Expand.{expand_outcome}
use Rattle.checking.specs.CheckTransform.{Lent, lent}
use Rattle.desk.specs.Page.{page_outcome}
use Rattle.desk.specs.declared.work.Source.{Source}
use Rattle.desk.specs.declared.work.Source.TheVariants.{Text, Protected, Room}
use Rattle.desk.specs.Desk.{Done, Told, told, Finished, finished, finish_outcome, refusal, goes_on, judged, no_events, taken_outcome, tell_outcome, expand_outcome_then, drive_then, lay_then, desk_outcome}

-- a refusal tells of no bytes
pub refusal-inside : (source : Source) (number : ℕ) (r : Done) (n m : ℕ) → r ≡ refusal source number → (r.page ≤ n) × (r.table ≤ m)
refusal-inside source number r n m e =
    let p : r.page ≡ 0 = ap (λ (d : Done). d.page) e in
    let t : r.table ≡ 0 = ap (λ (d : Done). d.table) e in
    (omega (arith, p), omega (arith, t))

module _ (len : ℕ) (old new : Lent) (rules steps : List ℕ) (u : Used) (protected : List ℕ) (check : Bool) (stopped : ℕ) (table : List ℕ) (q : Written) (ys : List ℕ) (f : outcome q ys ≡ table_outcome old.nodes old.letters old.links old.counts rules steps u table) where
  pub no_table : (d : Done) → d ≡ refusal Room q.number → (q.number ≡ 0 → ⊥) → finished d ys ≡ finish_outcome len old new rules steps u protected check stopped table
  unfolding finish_outcome
  no_table d g w = rw (← f, ne_eqb q.number 0 w) (ap (λ (x : Done). finished x ys) g)

  pub finishes : (v : Verdict) → v ≡ judged check old new rules steps u protected → q.number ≡ 0 → finished (record { number = 0; source = None; stopped = stopped; page = len; table = q.len; verdict = v }) ys ≡ finish_outcome len old new rules steps u protected check stopped table
  unfolding finish_outcome
  finishes v g w = rw (← f, w, ← g)

module _ (text : List ℕ) (old new : Lent) (rules steps : List ℕ) (u : Used) (protected : List ℕ) (check : Bool) (stopped : ℕ) (page table : List ℕ) (r : Written) (xs : List ℕ) (e : outcome r xs ≡ page_outcome text old new rules steps u page) where
  pub no_page : (d : Done) → d ≡ refusal Room r.number → (r.number ≡ 0 → ⊥) → told d xs table ≡ tell_outcome text old new rules steps u protected check stopped page table
  unfolding tell_outcome
  no_page d f z = rw (← e, ne_eqb r.number 0 z) (ap (λ (x : Done). told x xs table) f)

  pub tells : (d : Done) (ys : List ℕ) → finished d ys ≡ finish_outcome r.len old new rules steps u protected check stopped table → r.number ≡ 0 → told d xs ys ≡ tell_outcome text old new rules steps u protected check stopped page table
  unfolding tell_outcome
  tells d ys f z = rw (← e, z) (ap (λ (x : Finished). told x.answer xs x.table) f)

module _ (text : List ℕ) (old new : Lent) (eventRules eventSteps : List ℕ) (u : Used) (protected : List ℕ) (check : Bool) (stopped : ℕ) (rules steps page table : List ℕ) (r : Expanded) (xs ys : List ℕ) (e : expand.outcome r xs ys ≡ expand_outcome eventRules eventSteps u rules steps) where
  pub no_expansion : (d : Done) → d ≡ refusal Room r.number → (r.number ≡ 0 → ⊥) → told d page table ≡ expand_outcome_then text old new eventRules eventSteps u protected check stopped rules steps page table
  unfolding expand_outcome_then
  no_expansion d f z = rw (← e, ne_eqb r.number 0 z) (ap (λ (x : Done). told x page table) f)

  pub expands : (t : Told) → t ≡ tell_outcome text old new xs ys r.used protected check stopped page table → r.number ≡ 0 → t ≡ expand_outcome_then text old new eventRules eventSteps u protected check stopped rules steps page table
  unfolding expand_outcome_then
  expands t f z = rw (← e, z) f

module _ (text : List ℕ) (old : Lent) (new : collapsing.Lent) (protected : List ℕ) (check : Bool) (rules steps page table : List ℕ) (r : Driven) (l : collapsing.Lent) (e : driver.outcome r l ≡ collapse_all_outcome new old.letters old.counts no_events protected) where
  pub no_run : (d : Done) → d ≡ refusal Protected r.number → goes_on protected r.number ≡ false → told d page table ≡ drive_then text old new protected check rules steps page table
  unfolding drive_then
  no_run d f g = rw (← e, g) (ap (λ (x : Done). told x page table) f)

  pub drives : (t : Told) → t ≡ expand_outcome_then text old (lent l.nodes old.letters l.links r.counts) l.rules l.steps r.used protected check r.number rules steps page table → goes_on protected r.number ≡ true → t ≡ drive_then text old new protected check rules steps page table
  unfolding drive_then
  drives t f g = rw (← e, g) f

module _ (text : List ℕ) (old : Lent) (new : collapsing.Lent) (protected : List ℕ) (check : Bool) (rules steps page table : List ℕ) where
  abbrev laid : Told
  laid = lay_then text old new protected check rules steps page table

  pub short_nodes : (d : Done) → d ≡ refusal Room 7 → length new.nodes < length old.nodes → told d page table ≡ laid
  unfolding lay_then
  short_nodes d f h = rw (lt-ltb (length new.nodes) (length old.nodes) h) (ap (λ (x : Done). told x page table) f)

  module _ (h : length old.nodes ≤ length new.nodes) where
    pub short_links : (d : Done) → d ≡ refusal Room 7 → length new.links < length old.links → told d page table ≡ laid
    unfolding lay_then
    short_links d f k =
        rw (le-ltb (length new.nodes) (length old.nodes) h, lt-ltb (length new.links) (length old.links) k) (ap (λ (x : Done). told x page table) f)

    pub lays : (nodes links : List ℕ) → nodes ≡ sets new.nodes 0 old.nodes → links ≡ sets new.links 0 old.links → (t : Told) → t ≡ drive_then text old (collapsing.lent nodes links new.rules new.steps) protected check rules steps page table → length old.links ≤ length new.links → t ≡ laid
    unfolding lay_then
    lays nodes links m n t f k =
        rw (le-ltb (length new.nodes) (length old.nodes) h, le-ltb (length new.links) (length old.links) k, ← m, ← n) f

module _ (text protected : List ℕ) (check : Bool) (old : Store) (new : collapsing.Lent) (rules steps page table : List ℕ) (r : Read) (l : Store) (e : reading.outcome r l ≡ taken_outcome old text) where
  pub no_reading : (d : Done) → d ≡ refusal Text r.number → (r.number ≡ 0 → ⊥) → told d page table ≡ desk_outcome text protected check old new rules steps page table
  unfolding desk_outcome
  no_reading d f z = rw (← e, ne_eqb r.number 0 z) (ap (λ (x : Done). told x page table) f)

  pub works : (t : Told) → t ≡ lay_then text (lent l.nodes l.letters l.links r.counts) new protected check rules steps page table → r.number ≡ 0 → t ≡ desk_outcome text protected check old new rules steps page table
  unfolding desk_outcome
  works t f z = rw (← e, z) f
