use Prim.Native.Nat.{◌+◌}
use mathlib.Core.Path.{refl, ap, ◌∙◌}
use native.Mathlib.Omega.{arith}
use Rattle.formed.proofs.Bounds.{live-fits}
use Rattle.formed.proofs.Says.{formed_room}
use Rattle.collapsing.specs.Making.{Room}
use Rattle.collapsing.specs.Outcome.{lent}
use Rattle.driver.proofs.Going.{Going, going_start, going_end, going_less, going_again}
use Rattle.driver.proofs.drive.drive_in.Goals as goal

pub loop-counts-init : goal.loop-counts-init
loop-counts-init c =
    let a = c.args in
    (refl, going_start ((lent c.args.nodes.now c.args.links.now c.args.rules.now c.args.steps.now)) a.text.now a.c a.u a.protected.now (record { graph = c.requires.c_value.0; events = c.requires.u_value.0; ids = c.requires.c_value.1; keys = c.requires.u_value.1 }))

pub turn-t-requires : goal.turn-t-requires
turn-t-requires c =
    let k = c.loop-counts.invariant.1.sound in
    let few = (formed_room c.loop-counts.nodes c.args.text.now c.loop-counts.links c.loop-counts.counts k.graph).few_nodes in
    record { c_value = (k.graph, k.ids); u_value = (k.events, k.keys); nodes_in_bounds = omega (arith, few, c.loop-counts.invariant.0, c.requires.in_bounds) }

pub shape_of-nodes-then-t-eq0 : goal.shape_of-nodes-then-t-eq0
shape_of-nodes-then-t-eq0 c = c.turn-t.auto.nodes ∙ ap (λ (x : Room). x.nodes) c.loop-counts.invariant.1.room

pub shape_of-links-then-t-eq0 : goal.shape_of-links-then-t-eq0
shape_of-links-then-t-eq0 c = c.turn-t.auto.links ∙ ap (λ (x : Room). x.links) c.loop-counts.invariant.1.room

pub shape_of-rules-then-t-eq0 : goal.shape_of-rules-then-t-eq0
shape_of-rules-then-t-eq0 c = c.turn-t.auto.rules ∙ ap (λ (x : Room). x.rules) c.loop-counts.invariant.1.room

pub shape_of-steps-then-t-eq0 : goal.shape_of-steps-then-t-eq0
shape_of-steps-then-t-eq0 c = c.turn-t.auto.steps ∙ ap (λ (x : Room). x.steps) c.loop-counts.invariant.1.room

pub shape_of-members-then-t-eq0 : goal.shape_of-members-then-t-eq0
shape_of-members-then-t-eq0 c = c.turn-t.auto.members ∙ c.loop-counts.invariant.0

pub returns-then-t-eq0 : goal.returns-then-t-eq0
returns-then-t-eq0 c =
    let a = c.args in
    going_end ((lent c.args.nodes.now c.args.links.now c.args.rules.now c.args.steps.now)) a.text.now a.c a.u a.protected.now ((lent c.loop-counts.nodes c.loop-counts.links c.loop-counts.rules c.loop-counts.steps)) c.loop-counts.counts c.loop-counts.used c.loop-counts.made c.loop-counts.invariant.1 c.turn-t.result _ c.turn-t.ensures c.if-t-eq0.true

pub overflow_add-made : goal.overflow_add-made
overflow_add-made c =
    let again : Going ((lent c.args.nodes.now c.args.links.now c.args.rules.now c.args.steps.now)) c.args.text.now c.args.c c.args.u c.args.protected.now (lent c.turn-t.new.nodes c.turn-t.new.links c.turn-t.new.rules c.turn-t.new.steps) c.turn-t.result.counts c.turn-t.result.used (c.loop-counts.made + 1) =
    let a = c.args in
    going_again ((lent c.args.nodes.now c.args.links.now c.args.rules.now c.args.steps.now)) a.text.now a.c a.u a.protected.now ((lent c.loop-counts.nodes c.loop-counts.links c.loop-counts.rules c.loop-counts.steps)) c.loop-counts.counts c.loop-counts.used c.loop-counts.made c.loop-counts.invariant.1 c.turn-t.result _ c.turn-t.ensures c.if-t-eq0.false
    in
    let a = c.args in
    omega (arith, (again).enough, live-fits a.nodes.now a.text.now a.links.now a.c c.requires.c_value.0)

pub loop-counts-smaller : goal.loop-counts-smaller
loop-counts-smaller c =
    let a = c.args in
    going_less ((lent c.args.nodes.now c.args.links.now c.args.rules.now c.args.steps.now)) a.text.now a.c a.u a.protected.now ((lent c.loop-counts.nodes c.loop-counts.links c.loop-counts.rules c.loop-counts.steps)) c.loop-counts.counts c.loop-counts.used c.loop-counts.made c.loop-counts.invariant.1 c.turn-t.result _ c.turn-t.ensures c.if-t-eq0.false

pub loop-counts-preserved : goal.loop-counts-preserved
loop-counts-preserved c =
    let again : Going ((lent c.args.nodes.now c.args.links.now c.args.rules.now c.args.steps.now)) c.args.text.now c.args.c c.args.u c.args.protected.now (lent c.turn-t.new.nodes c.turn-t.new.links c.turn-t.new.rules c.turn-t.new.steps) c.turn-t.result.counts c.turn-t.result.used (c.loop-counts.made + 1) =
    let a = c.args in
    going_again ((lent c.args.nodes.now c.args.links.now c.args.rules.now c.args.steps.now)) a.text.now a.c a.u a.protected.now ((lent c.loop-counts.nodes c.loop-counts.links c.loop-counts.rules c.loop-counts.steps)) c.loop-counts.counts c.loop-counts.used c.loop-counts.made c.loop-counts.invariant.1 c.turn-t.result _ c.turn-t.ensures c.if-t-eq0.false
    in
    (c.turn-t.auto.members ∙ c.loop-counts.invariant.0, again)
