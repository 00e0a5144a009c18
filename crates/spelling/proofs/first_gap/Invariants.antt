use Prim.Native.Nat.{◌≤◌}
use mathlib.Core.Path.{◌≡◌}
use Rattle.store.specs.Graph.{links_of}
use Rattle.affix.specs.Prefix.{handles_of}
use Rattle.spelling.specs.Spelling.{first_gap}
use Rattle.spelling.proofs.Steps.{gap_from}
use Rattle.spelling.proofs.first_gap.Given as goal

abbrev pub invariant-loop-i : goal.invariant-loop-i
invariant-loop-i l = (1 ≤ l.i) × (gap_from (links_of l.count l.links) l.walk l.i ≡ first_gap (links_of l.count l.links) (handles_of l.walk))
