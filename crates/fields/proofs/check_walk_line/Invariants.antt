use Prim.Native.Nat.{◌-◌}
use mathlib.Core.Path.{◌≡◌}
use Rattle.text.specs.Pieces.{fields_of}
use Rattle.text.specs.Fields.{walk_fields, shape_number}
use Rattle.fields.proofs.Shapes.{each_number, walk_last}
use Rattle.fields.proofs.check_walk_line.Given as goal

abbrev pub invariant-loop-k : goal.invariant-loop-k
invariant-loop-k l = each_number (walk_last (6 - l.k)) l.k (fields_of l.line) ≡ shape_number walk_fields l.line
