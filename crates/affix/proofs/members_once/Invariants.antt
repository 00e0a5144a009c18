use mathlib.Core.Path.{◌≡◌}
use lib.ListN.{drop}
use Rattle.affix.specs.Prefix.{members_once, handles_of}
use Rattle.affix.proofs.members_once.Given as goal

abbrev pub invariant-loop-i : goal.invariant-loop-i
invariant-loop-i l = members_once (drop l.i (handles_of l.members)) ≡ members_once (handles_of l.members)
