use Prim.Native.Nat.{ℕ, ◌≤◌}
use mathlib.Core.List.{List, map}
use mathlib.Core.Path.{◌≡◌}
use lib.ListN.{length, drop}
use Rattle.handle.specs.declared.Handle.{Handle}
use Rattle.store.specs.Graph.{nodes_of}
use Rattle.affix.specs.Reading.{reading_of, read}
use Rattle.affix.specs.Prefix.{handles_of, shared}
use Rattle.affix.specs.declared.Reading.{Reading}
use Rattle.affix.proofs.prefix_len.Given as goal

-- what a member reads, and the run that it and those after it leave
abbrev pub spelled : List ℕ → List ℕ → ℕ → Handle → List ℕ
spelled nodes text count h = read text (reading_of (nodes_of count nodes) h)

abbrev pub run : List ℕ → List ℕ → ℕ → Reading → List ℕ → ℕ → ℕ
run nodes text count first members i = length (shared (read text first) (map (spelled nodes text count) (drop i (handles_of members))))

abbrev pub invariant-loop-i : goal.invariant-loop-i
invariant-loop-i l = (1 ≤ l.i) × (l.n ≡ run l.nodes l.text l.count l.first l.members l.i)
