use mathlib.Core.List.{[]}
use Prim.Native.Nat.{◌≤◌}
use mathlib.Core.Path.{◌≡◌}
use lib.ListN.{drop}
use Rattle.letters.specs.Sequences.{same_spelling}
use Rattle.store.specs.Graph.{graph_of}
use Rattle.affix.specs.Reading.{read}
use Rattle.scanning.proofs.RuleTurns.{spelled}
use Rattle.scanning.proofs.same_walk.Given as goal

abbrev pub invariant-loop-j : goal.invariant-loop-j
invariant-loop-j l = (l.off ≤ l.len) × (same_spelling (drop l.off (read l.old_text l.r)) (spelled (graph_of l.nodes l.text [] l.d) l.steps l.end l.j) ≡ same_spelling (read l.old_text l.r) (spelled (graph_of l.nodes l.text [] l.d) l.steps l.end l.first))
