-- By hand: a tactic that reads the rooms' lengths unfolds them.
use Prim.Native.Nat.{ℕ}
use mathlib.Core.Path.{sym}
use lib.ListN.{length-replicate}
use lib.Seq.{length-take-le}
use Rattle.front.proofs.run.work.Goals as goal

pub slice_bounds-work-end-10 : goal.slice_bounds-work-end-10
slice_bounds-work-end-10 g c = sym (length-replicate {A = ℕ} 524288 0)

pub slice_bounds-work-end-11 : goal.slice_bounds-work-end-11
slice_bounds-work-end-11 g c = sym (length-replicate {A = ℕ} 262144 0)

pub returns-in-Some : goal.returns-in-Some
returns-in-Some g c = c.refuse.ensures

pub slice_bounds-page-end : goal.slice_bounds-page-end
slice_bounds-page-end g c = c.work-d.ensures.page_in_bounds.0

pub slice_bounds-write-end : goal.slice_bounds-write-end
slice_bounds-write-end g c = sym (length-take-le _ _ c.work-d.ensures.page_in_bounds.0)

pub slice_bounds-table-end : goal.slice_bounds-table-end
slice_bounds-table-end g c = c.work-d.ensures.page_in_bounds.1

pub slice_bounds-write-end-2 : goal.slice_bounds-write-end-2
slice_bounds-write-end-2 g c = sym (length-take-le _ _ c.work-d.ensures.page_in_bounds.1)

pub returns : goal.returns
returns g c = c.write.ensures
