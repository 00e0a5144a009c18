use mathlib.Core.List.{[]}
use mathlib.Core.Path.{◌≡◌, sym, ap, ◌∙◌}
use native.Mathlib.Omega.{arith}
use lib.Dec.{eqb}
use lib.ListN.{get_or}
use Rattle.kit.specs.Loops.{any}
use Rattle.store.specs.Graph.{graph_of}
use Rattle.events.specs.Events.{list_of}
use Rattle.events.proofs.Says.{table-room}
use Rattle.verdict.specs.Conditions.{protected_ids}
use Rattle.verdict.proofs.Protected.{walk_inside, walk_ids, walk_hit, walk_miss, walk_end}
use Rattle.verdict.proofs.repeats.in_walks.Goals as goal

pub walk_of-w-requires : goal.walk_of-w-requires
walk_of-w-requires c =
    let a = c.args in
    (c.requires.0, (table-room a.rules.now a.steps.now a.u c.requires.1).rule_room)

pub in_walk-requires : goal.in_walk-requires
in_walk-requires c =
    let a = c.args in
    ((table-room a.rules.now a.steps.now a.u c.requires.1).step_room, walk_inside a.oldnodes.now a.rules.now a.steps.now a.c a.u (get_or a.before.now c.loop-k.k 0) c.walk_of-w.result c.walk_of-w.ensures c.requires.1)

pub returns-then-in_walk : goal.returns-then-in_walk
returns-then-in_walk c =
    let met_so : any (eqb c.args.id) (protected_ids (graph_of c.args.oldnodes.now [] [] c.args.c) (list_of c.args.rules.now c.args.steps.now c.args.u) (get_or c.args.before.now c.loop-k.k 0)) ≡ c.in_walk.result =
    let a = c.args in
    ap (any (eqb a.id)) (sym (walk_ids a.oldnodes.now a.rules.now a.steps.now a.c a.u (get_or a.before.now c.loop-k.k 0) c.walk_of-w.result c.walk_of-w.ensures)) ∙ sym c.in_walk.ensures
    in
    let a = c.args in
    sym (walk_hit (protected_ids (graph_of a.oldnodes.now [] [] a.c) (list_of a.rules.now a.steps.now a.u)) a.id a.before.now c.loop-k.k (omega arith) (met_so ∙ c.if-in_walk.true)) ∙ c.loop-k.invariant

pub loop-k-preserved : goal.loop-k-preserved
loop-k-preserved c =
    let met_so : any (eqb c.args.id) (protected_ids (graph_of c.args.oldnodes.now [] [] c.args.c) (list_of c.args.rules.now c.args.steps.now c.args.u) (get_or c.args.before.now c.loop-k.k 0)) ≡ c.in_walk.result =
    let a = c.args in
    ap (any (eqb a.id)) (sym (walk_ids a.oldnodes.now a.rules.now a.steps.now a.c a.u (get_or a.before.now c.loop-k.k 0) c.walk_of-w.result c.walk_of-w.ensures)) ∙ sym c.in_walk.ensures
    in
    let a = c.args in
    sym (walk_miss (protected_ids (graph_of a.oldnodes.now [] [] a.c) (list_of a.rules.now a.steps.now a.u)) a.id a.before.now c.loop-k.k (omega arith) (met_so ∙ c.if-in_walk.false)) ∙ c.loop-k.invariant

pub returns : goal.returns
returns c =
    let a = c.args in
    let ids = protected_ids (graph_of a.oldnodes.now [] [] a.c) (list_of a.rules.now a.steps.now a.u) in
    sym (walk_end ids a.id a.before.now c.loop-k.k (omega arith)) ∙ c.loop-k.invariant
