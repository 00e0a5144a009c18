use mathlib.Core.Path.{◌≡◌}
use lib.ListN.{drop}
use Rattle.kit.specs.Loops.{all}
use Rattle.sides.specs.Sides.{bare, same_left}
use Rattle.affix.specs.Prefix.{handles_of}
use Rattle.collapsing.specs.Making.{same_lefts}
use Rattle.collapsing.proofs.number.same_lefts.Given as goal

abbrev pub invariant-loop-i : goal.invariant-loop-i
invariant-loop-i l = all (same_left (bare l.nodes l.links l.c) l.first) (drop l.i (handles_of l.members)) ≡ same_lefts (bare l.nodes l.links l.c) (handles_of l.members)
