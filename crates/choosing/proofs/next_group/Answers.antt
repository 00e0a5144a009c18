use mathlib.Core.Path.{refl, ap, ◌∙◌}
use mathlib.Core.List.{[], List}
use native.Mathlib.Omega.{arith}
use lib.ListN.{length}
use Rattle.kit.specs.Loops.{first_or, lines}
use Rattle.handle.specs.declared.Handle.{Handle}
use Rattle.store.specs.Graph.{Graph, nodes_of, graph_of, handle}
use Rattle.formed.proofs.Says.{formed_room}
use Rattle.sides.proofs.Rising.{rest_above, Step, next-step, next_end}
use Rattle.groups.specs.Groups.{groups_of}
use Rattle.choosing.specs.Scan.{scan_order, must_collapse}
use Rattle.choosing.proofs.Along.{scan_sorted, formed_ids, scan_all}
use Rattle.choosing.proofs.Firsts.{turn_none, turn-found, turn_end}
use Rattle.choosing.proofs.next_group.Goals as goal

pub loop-v-init : goal.loop-v-init
loop-v-init c =
    let a = c.args in
    let g : Graph = graph_of a.nodes.now a.text.now a.links.now a.c in
    (refl, ap (λ (hs : List Handle). first_or [] (must_collapse g a.protected.now) (lines (groups_of g) hs)) (scan_all a.nodes.now a.text.now a.links.now a.c c.requires.0))

pub next_scan-requires : goal.next_scan-requires
next_scan-requires c =
    let a = c.args in
    record { count_in_bounds = (formed_room a.nodes.now a.text.now a.links.now a.c c.requires.0).node_room; nodes_value = formed_ids a.nodes.now a.text.now a.links.now a.c c.requires.0 }

pub shape_of-members : goal.shape_of-members
shape_of-members c = c.loop-v.invariant.0

pub returns-clause-value : goal.returns-clause-value
returns-clause-value c =
    let a = c.args in
    let g : Graph = graph_of a.nodes.now a.text.now a.links.now a.c in
    turn_end g a.protected.now (ap (lines (groups_of g)) (next_end c.loop-v.above (scan_order g.nodes) c.in_default.ensures.value)) c.loop-v.invariant.1

pub group_of-requires : goal.group_of-requires
group_of-requires c = (c.requires.0, omega (arith, c.requires.1, c.loop-v.invariant.0))

pub shape_of-members-in-Some-group_of : goal.shape_of-members-in-Some-group_of
shape_of-members-in-Some-group_of c = c.group_of.auto.members ∙ c.loop-v.invariant.0

pub returns-in-Some-group_of-clause-value : goal.returns-in-Some-group_of-clause-value
returns-in-Some-group_of-clause-value c =
    let step : Step c.loop-v.above (scan_order (nodes_of c.args.c.nodes c.args.nodes.now)) c.in-Some.v.packed =
    let a = c.args in
    next-step c.loop-v.above c.in-Some.v.packed (scan_sorted (nodes_of a.c.nodes a.nodes.now)) c.in-Some.ensures.value c.in-Some.ensures.some
    in
    let a = c.args in
    let g : Graph = graph_of a.nodes.now a.text.now a.links.now a.c in
    let v = c.in-Some.v.packed in
    turn-found g a.protected.now (groups_of g (handle v)) (lines (groups_of g) (rest_above v (scan_order g.nodes))) (ap (lines (groups_of g)) (step).rest) c.loop-v.invariant.1 c.in-Some-group_of.ensures.value (λ z. omega (arith, c.in-Some-group_of.ensures.some))

pub loop-v-smaller : goal.loop-v-smaller
loop-v-smaller c =
    let step : Step c.loop-v.above (scan_order (nodes_of c.args.c.nodes c.args.nodes.now)) c.in-Some.v.packed =
    let a = c.args in
    next-step c.loop-v.above c.in-Some.v.packed (scan_sorted (nodes_of a.c.nodes a.nodes.now)) c.in-Some.ensures.value c.in-Some.ensures.some
    in
    let s = step in omega (arith, ap length s.rest)

pub loop-v-preserved : goal.loop-v-preserved
loop-v-preserved c =
    let step : Step c.loop-v.above (scan_order (nodes_of c.args.c.nodes c.args.nodes.now)) c.in-Some.v.packed =
    let a = c.args in
    next-step c.loop-v.above c.in-Some.v.packed (scan_sorted (nodes_of a.c.nodes a.nodes.now)) c.in-Some.ensures.value c.in-Some.ensures.some
    in
    let a = c.args in
    let g : Graph = graph_of a.nodes.now a.text.now a.links.now a.c in
    let v = c.in-Some.v.packed in
    (c.group_of.auto.members ∙ c.loop-v.invariant.0, turn_none g a.protected.now (groups_of g (handle v)) (lines (groups_of g) (rest_above v (scan_order g.nodes))) (ap (lines (groups_of g)) (step).rest) c.loop-v.invariant.1 c.in_default-group_of.ensures.value refl)
