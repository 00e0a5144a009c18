use mathlib.Core.Path.{refl, ap, ◌∙◌}
use mathlib.Core.List.{[], List, ◌∷◌, map}
use native.Mathlib.Omega.{arith}
use lib.ListN.{length}
use Rattle.kit.specs.Loops.{first_or}
use Rattle.handle.specs.declared.Handle.{Handle}
use Rattle.store.specs.Graph.{Graph, graph_of, handle}
use Rattle.sides.specs.Sides.{right_of}
use Rattle.sides.proofs.Rising.{Step, next-step, next_end}
use Rattle.groups.specs.Groups.{group_of}
use Rattle.groups.specs.Search.{heads_of}
use Rattle.groups.proofs.Along.{heads-all, heads_sorted}
use Rattle.choosing.specs.Scan.{must_collapse}
use Rattle.choosing.proofs.Firsts.{turn_none, turn-found, turn_end}
use Rattle.choosing.proofs.group_of.Invariants.{left}
use Rattle.choosing.proofs.group_of.Goals as goal

pub loop-u-init : goal.loop-u-init
loop-u-init c =
    let a = c.args in
    let g : Graph = graph_of a.nodes.now a.text.now a.links.now a.c in
    (refl, ap (λ (hs : List Handle). first_or [] (must_collapse g a.protected.now) (map (group_of g (right_of g a.v)) hs)) (heads-all a.nodes.now a.text.now a.links.now a.c c.requires.0 a.v))

pub shape_of-members : goal.shape_of-members
shape_of-members c = c.loop-u.invariant.0

pub returns-clause-value : goal.returns-clause-value
returns-clause-value c =
    let a = c.args in
    let g : Graph = graph_of a.nodes.now a.text.now a.links.now a.c in
    turn_end g a.protected.now (ap (map (group_of g (right_of g a.v))) (next_end c.loop-u.above (heads_of g a.v) c.in_default.ensures.value)) c.loop-u.invariant.1

pub try_group-requires : goal.try_group-requires
try_group-requires c = (c.requires.0, omega (arith, c.requires.1, c.loop-u.invariant.0))

pub shape_of-members-in-Some-try_group : goal.shape_of-members-in-Some-try_group
shape_of-members-in-Some-try_group c = c.try_group.auto.members ∙ c.loop-u.invariant.0

pub returns-in-Some-try_group-clause-value : goal.returns-in-Some-try_group-clause-value
returns-in-Some-try_group-clause-value c =
    let step : Step c.loop-u.above (heads_of (graph_of c.args.nodes.now c.args.text.now c.args.links.now c.args.c) c.args.v) c.in-Some.u.packed =
    let a = c.args in
    next-step c.loop-u.above c.in-Some.u.packed (heads_sorted (graph_of a.nodes.now a.text.now a.links.now a.c) a.v) c.in-Some.ensures.value c.in-Some.ensures.some
    in
    let a = c.args in
    let g : Graph = graph_of a.nodes.now a.text.now a.links.now a.c in
    let u = c.in-Some.u.packed in
    turn-found g a.protected.now (group_of g (right_of g a.v) (handle u) ∷ []) (left g a.v u) (ap (map (group_of g (right_of g a.v))) (step).rest) c.loop-u.invariant.1 c.in-Some-try_group.ensures.value (λ z. omega (arith, c.in-Some-try_group.ensures.some))

pub loop-u-smaller : goal.loop-u-smaller
loop-u-smaller c =
    let step : Step c.loop-u.above (heads_of (graph_of c.args.nodes.now c.args.text.now c.args.links.now c.args.c) c.args.v) c.in-Some.u.packed =
    let a = c.args in
    next-step c.loop-u.above c.in-Some.u.packed (heads_sorted (graph_of a.nodes.now a.text.now a.links.now a.c) a.v) c.in-Some.ensures.value c.in-Some.ensures.some
    in
    let s = step in omega (arith, ap length s.rest)

pub loop-u-preserved : goal.loop-u-preserved
loop-u-preserved c =
    let step : Step c.loop-u.above (heads_of (graph_of c.args.nodes.now c.args.text.now c.args.links.now c.args.c) c.args.v) c.in-Some.u.packed =
    let a = c.args in
    next-step c.loop-u.above c.in-Some.u.packed (heads_sorted (graph_of a.nodes.now a.text.now a.links.now a.c) a.v) c.in-Some.ensures.value c.in-Some.ensures.some
    in
    let a = c.args in
    let g : Graph = graph_of a.nodes.now a.text.now a.links.now a.c in
    let u = c.in-Some.u.packed in
    (c.try_group.auto.members ∙ c.loop-u.invariant.0, turn_none g a.protected.now (group_of g (right_of g a.v) (handle u) ∷ []) (left g a.v u) (ap (map (group_of g (right_of g a.v))) (step).rest) c.loop-u.invariant.1 c.in_default-try_group.ensures.value refl)
