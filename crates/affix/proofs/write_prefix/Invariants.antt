use Prim.Native.Nat.{◌≤◌}
use mathlib.Core.Path.{◌≡◌}
use lib.Seq.{sets}
use lib.ListN.{length, take, drop}
use Rattle.affix.specs.Reading.{read}
use Rattle.affix.proofs.write_prefix.Given as goal

abbrev pub invariant-loop-i : goal.invariant-loop-i
invariant-loop-i l = (length l.out ≡ length l.initial.out) × (l.i ≤ l.n) × (sets l.out l.i (drop l.i (take l.n (read l.text l.r))) ≡ sets l.initial.out 0 (take l.n (read l.text l.r)))
