use Prim.Native.Nat.{◌-◌}
use Rattle.drawing.specs.Drawn.{fields_text}
use Rattle.drawing.proofs.Capping.{Capping}
use Rattle.drawing.proofs.cap.add_fields.Given as goal

abbrev pub invariant-loop-k : goal.invariant-loop-k
invariant-loop-k l = Capping l.stop l.initial.out l.at (fields_text 0 l.n l.line) l.out l.place (fields_text l.k (l.n - l.k) l.line)
