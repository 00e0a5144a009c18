use Prim.Native.Nat.{◌+◌, ◌≤◌}
use mathlib.Core.Path.{◌≡◌}
use lib.ListN.{length, drop}
use Rattle.expansion.specs.Filling.{part_of, walk_in}
use Rattle.expansion.specs.Table.{capped}
use Rattle.expansion.proofs.walk_len.Given as goal

abbrev pub invariant-loop-k : goal.invariant-loop-k
invariant-loop-k l = (l.total ≤ 262145) × (capped (l.total + length (walk_in l.rules l.steps l.c l.ahead (drop l.k (part_of l.steps l.c l.first l.n)))) ≡ capped (length (walk_in l.rules l.steps l.c l.ahead (part_of l.steps l.c l.first l.n))))
