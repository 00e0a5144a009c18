use mathlib.Core.List.{[]}
use Prim.Native.Nat.{◌+◌}
use mathlib.Core.Path.{◌≡◌}
use lib.ListN.{length, drop}
use Rattle.affix.specs.Reading.{read}
use Rattle.affix.specs.Prefix.{shared}
use Rattle.affix.proofs.base_run.Given as goal

abbrev pub invariant-loop-n : goal.invariant-loop-n
invariant-loop-n l = l.n + length (shared (drop l.n (read l.text l.r)) []) ≡ length (shared (read l.text l.r) [])
