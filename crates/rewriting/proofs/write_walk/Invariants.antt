use Prim.Native.Nat.{ℕ}
use mathlib.Core.List.{[], List}
use borrow.Author.Rules.{rules}
use Rattle.handle.specs.declared.Handle.{Handle}
use Rattle.store.specs.declared.Counts.{Counts}
use Rattle.store.specs.Graph.{graph_of}
use Rattle.groups.specs.Groups.{numbers}
use Rattle.events.specs.declared.Used.{Used}
use Rattle.events.specs.Events.{list_of}
use Rattle.spelling.proofs.Writing.{Writing}
use Rattle.rewriting.specs.Rewriting.{transform_node}
use Rattle.rewriting.proofs.write_walk.Given as goal

-- the numbers that stand for a step
abbrev pub image : List ℕ → Counts → List ℕ → List ℕ → Used → Handle → List ℕ
image nodes c rules steps u h = numbers (transform_node (graph_of nodes [] [] c) (list_of rules steps u) h)

abbrev pub invariant-loop-i : goal.invariant-loop-i
invariant-loop-i l = Writing (image l.nodes l.c l.rules l.steps l.u) l.walk l.initial.out l.out l.at l.i
