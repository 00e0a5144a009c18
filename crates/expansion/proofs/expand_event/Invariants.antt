use Prim.Native.Nat.{◌+◌, ◌*◌}
use lib.ListN.{get_or}
use Rattle.expansion.specs.Filling.{event_walk}
use Rattle.expansion.proofs.Walking.{Going}
use Rattle.expansion.proofs.expand_event.Given as goal

abbrev pub invariant-loop-k : goal.invariant-loop-k
invariant-loop-k l = Going l.table l.initial.out l.d (l.i + 1) (get_or l.table (4 * l.i + 2) 0) (event_walk l.rules l.steps l.i) l.out l.next l.k
