use Prim.Native.Nat.{ℕ, ◌+◌, ◌≤◌, ◌<◌}
use mathlib.Core.Path.{◌≡◌, sym, ap, ◌∙◌}
use mathlib.Core.List.{[], List}
use native.Mathlib.Omega.{arith}
use lib.ListN.{length, get_or}
use Rattle.kit.specs.Loops.{lines}
use Rattle.store.specs.declared.Counts.{Counts}
use Rattle.store.specs.Graph.{handle, graph_of}
use Rattle.affix.specs.Prefix.{handles_of}
use Rattle.groups.specs.Groups.{numbers, over}
use Rattle.events.specs.declared.Used.{Used}
use Rattle.events.specs.Events.{list_of}
use Rattle.spelling.proofs.Writing.{Writing, writing_none, writing-room, writing-next, writing-all}
use Rattle.rewriting.specs.Rewriting.{transform_node, transform_walk}
use Rattle.rewriting.proofs.Images.{length-numbers, numbers-lines}
use Rattle.rewriting.proofs.write_walk.Invariants.{image}
use Rattle.rewriting.proofs.write_walk.Goals as goal

module _ (nodes : List ℕ) (c : Counts) (rules steps : List ℕ) (u : Used) (walk : List ℕ) where
  whole : lines (image nodes c rules steps u) (handles_of walk) ≡ numbers (transform_walk (graph_of nodes [] [] c) (list_of rules steps u) (handles_of walk))
  whole = sym (numbers-lines (transform_node (graph_of nodes [] [] c) (list_of rules steps u)) (handles_of walk))

  enough : (out : List ℕ) → length (transform_walk (graph_of nodes [] [] c) (list_of rules steps u) (handles_of walk)) ≤ length out → length (lines (image nodes c rules steps u) (handles_of walk)) ≤ length out
  enough out h = omega (arith, h, ap length whole, length-numbers (transform_walk (graph_of nodes [] [] c) (list_of rules steps u) (handles_of walk)))

  step_room : {out₀ out : List ℕ} {at i : ℕ} → Writing (image nodes c rules steps u) walk out₀ out at i → i < length walk → at + length (transform_node (graph_of nodes [] [] c) (list_of rules steps u) (handle (get_or walk i 0))) ≤ length out
  step_room {i = i} w h = omega (arith, writing-room w h, length-numbers (transform_node (graph_of nodes [] [] c) (list_of rules steps u) (handle (get_or walk i 0))))

pub loop-i-init : goal.loop-i-init
loop-i-init c =
    let a = c.args in
    writing_none (image a.nodes.now a.c a.rules.now a.steps.now a.u) a.walk.now a.out.now (enough a.nodes.now a.c a.rules.now a.steps.now a.u a.walk.now a.out.now c.requires.walk_in_bounds)

pub transform_node-at-requires : goal.transform_node-at-requires
transform_node-at-requires c =
    let a = c.args in
    record { nodes_in_bounds = c.requires.nodes_in_bounds; step_in_bounds = step_room a.nodes.now a.c a.rules.now a.steps.now a.u a.walk.now c.loop-i.invariant (omega arith) }

pub loop-i-preserved : goal.loop-i-preserved
loop-i-preserved c = writing-next c.loop-i.invariant (omega arith) c.transform_node-at.ensures

pub returns : goal.returns
returns c =
    let a = c.args in
    writing-all c.loop-i.invariant (omega arith) (enough a.nodes.now a.c a.rules.now a.steps.now a.u a.walk.now a.out.now c.requires.walk_in_bounds)
    ∙ ap (λ (l : List ℕ). over l a.out.now) (whole a.nodes.now a.c a.rules.now a.steps.now a.u a.walk.now)
