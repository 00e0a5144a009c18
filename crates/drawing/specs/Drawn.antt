-- Steps as they are written one by one, before it is known whether another follows: a path's comma goes with the step after it.
use Rattle.std.specs.Prelude.{ℕ, zero, suc, ◌+◌, ◌≡◌, cond, List, [], ◌∷◌, ◌++◌, eqb}
use Rattle.handle.specs.declared.Handle.{Handle}
use Rattle.text.specs.Pieces.{field}
use Rattle.writing.specs.Marks.{walk_step, path_step}
use Rattle.drawing.specs.declared.step.Pen.{Pen}
use Rattle.drawing.specs.Capped.{Capped}

-- by its mark: 0 a walk's step, 1 a path's first step, any other a path's later step
abbrev pub step_text : ℕ → Handle → List ℕ
step_text mark h = cond (eqb mark 0) (walk_step h) (cond (eqb mark 1) (path_step h) (44 ∷ path_step h))

-- the mark of the step after it
abbrev pub later : ℕ → ℕ
later mark = cond (eqb mark 0) 0 2

abbrev pub steps_text : ℕ → List Handle → List ℕ
steps_text mark [] = []
steps_text mark (h ∷ hs) = step_text mark h ++ steps_text (later mark) hs

abbrev pub mark_after : ℕ → List Handle → ℕ
mark_after mark [] = mark
mark_after mark (h ∷ hs) = mark_after (later mark) hs

abbrev pub pen : ℕ → ℕ → Pen
pen place mark = record { place = place; mark = mark }

-- q is where the pen p is after it wrote these steps
pub record Drawn (stop : ℕ) (l : List ℕ) (p : Pen) (hs : List Handle) (m : List ℕ) (q : Pen) : Type 0 where
  pub written : Capped stop l p.place (steps_text p.mark hs) m q.place
  pub next : q.mark ≡ mark_after p.mark hs

-- n fields from field k on, each with the tab after it
abbrev pub fields_text : ℕ → ℕ → List ℕ → List ℕ
fields_text k zero line = []
fields_text k (suc n) line = (field k line ++ (9 ∷ [])) ++ fields_text (k + 1) n line
