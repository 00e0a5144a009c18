use Prim.Native.Nat.{ℕ}
use mathlib.Core.Path.{ap}
use mathlib.Core.List.{[], List, ◌∷◌, ◌++◌}
use borrow.Author.Rules.{rules}
use Rattle.drawing.proofs.Capping.{capped_is, capped-then}
use Rattle.drawing.proofs.cap.add_field.Goals as goal

pub returns : goal.returns
returns c = capped_is (ap (λ (f : List ℕ). f ++ (9 ∷ [])) c.field.ensures) (capped-then (search rules) c.add_bytes-end.ensures c.add_bytes.ensures)
