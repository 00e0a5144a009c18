use Prim.Native.Nat.{◌+◌, ◌-◌, ◌*◌, ◌≤◌}
use Rattle.expansion.specs.Filling.{toward, part_of}
use Rattle.expansion.proofs.Walking.{Going}
use Rattle.expansion.proofs.+expand_node_expand_walk.Given as goal

abbrev pub decreases-expand_node : goal.decreases-expand_node
decreases-expand_node l = 2 * (l.c.rules - l.ahead)

abbrev pub decreases-expand_walk : goal.decreases-expand_walk
decreases-expand_walk l = 2 * (l.c.rules - l.ahead) + 1

abbrev pub invariant-expand_walk-loop-k : goal.invariant-expand_walk-loop-k
invariant-expand_walk-loop-k l = (l.k ≤ l.n) × Going l.rules l.initial.steps l.c l.ahead l.at (toward l.forward (part_of l.initial.steps l.c l.first l.n)) l.steps l.next l.k

abbrev pub decreases-expand_walk-loop-k : goal.decreases-expand_walk-loop-k
decreases-expand_walk-loop-k l = l.n - l.k
