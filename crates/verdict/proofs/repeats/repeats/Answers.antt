use Prim.Native.Nat.{ℕ, ◌+◌, ◌*◌, ◌≤◌}
use mathlib.Core.Path.{◌≡◌, sym, ap, ap₂, ◌∙◌}
use mathlib.Core.Bool.{not}
use mathlib.Core.List.{[], List}
use native.Mathlib.Omega.{arith}
use lib.Dec.{eqb}
use lib.ListN.{length, take, get_or}
use Rattle.kit.specs.Loops.{any, lines}
use Rattle.store.specs.Graph.{graph_of}
use Rattle.handle.specs.Handle.{id_of}
use Rattle.events.specs.declared.Step.{Step}
use Rattle.events.specs.Events.{list_of}
use Rattle.events.proofs.Says.{table-room}
use Rattle.verdict.specs.Conditions.{protected_ids}
use Rattle.verdict.proofs.Protected.{walk_inside, walk_length, walk_node, walk_before, fresh-first, fresh_seen, fresh_again, fresh-next, fresh_end}
use Rattle.verdict.proofs.repeats.repeats.Goals as goal

pub walk_of-w-requires : goal.walk_of-w-requires
walk_of-w-requires c =
    let a = c.args in
    (c.requires.0, (table-room a.rules.now a.steps.now a.u c.requires.1).rule_room)

pub loop-j-init : goal.loop-j-init
loop-j-init c =
    let a = c.args in
    let ids = protected_ids (graph_of a.oldnodes.now [] [] a.c) (list_of a.rules.now a.steps.now a.u) in
    fresh-first (lines ids a.before.now) (ids a.id)

pub overflow_add-first : goal.overflow_add-first
overflow_add-first c =
    let bounds : (c.walk_of-w.result.first + c.walk_of-w.result.count ≤ c.args.u.steps) × (2 * c.args.u.steps ≤ length c.args.steps.now) =
    let a = c.args in
    (walk_inside a.oldnodes.now a.rules.now a.steps.now a.c a.u a.id c.walk_of-w.result c.walk_of-w.ensures c.requires.1, (table-room a.rules.now a.steps.now a.u c.requires.1).step_room)
    in
    omega (arith, bounds)

pub at-requires : goal.at-requires
at-requires c =
    let bounds : (c.walk_of-w.result.first + c.walk_of-w.result.count ≤ c.args.u.steps) × (2 * c.args.u.steps ≤ length c.args.steps.now) =
    let a = c.args in
    (walk_inside a.oldnodes.now a.rules.now a.steps.now a.c a.u a.id c.walk_of-w.result c.walk_of-w.ensures c.requires.1, (table-room a.rules.now a.steps.now a.u c.requires.1).step_room)
    in
    omega (arith, bounds)

pub in_walks-requires : goal.in_walks-requires
in_walks-requires c = c.requires

pub returns-then-in_walks : goal.returns-then-in_walks
returns-then-in_walks c =
    let node_so : get_or (protected_ids (graph_of c.args.oldnodes.now [] [] c.args.c) (list_of c.args.rules.now c.args.steps.now c.args.u) c.args.id) c.loop-j.j 0 ≡ c.id-node.result =
    let a = c.args in
    walk_node a.oldnodes.now a.rules.now a.steps.now a.c a.u a.id c.walk_of-w.result c.walk_of-w.ensures c.requires.1 c.loop-j.j (omega arith) ∙ sym (c.id-node.ensures ∙ ap (λ (s : Step). id_of s.node) c.at.ensures)
    in
    let seen_so : any (eqb (get_or (protected_ids (graph_of c.args.oldnodes.now [] [] c.args.c) (list_of c.args.rules.now c.args.steps.now c.args.u) c.args.id) c.loop-j.j 0)) (lines (protected_ids (graph_of c.args.oldnodes.now [] [] c.args.c) (list_of c.args.rules.now c.args.steps.now c.args.u)) c.args.before.now) ≡ c.in_walks.result =
    let a = c.args in
    ap (λ (x : ℕ). any (eqb x) (lines (protected_ids (graph_of a.oldnodes.now [] [] a.c) (list_of a.rules.now a.steps.now a.u)) a.before.now)) (node_so) ∙ sym c.in_walks.ensures
    in
    let a = c.args in
    let n = walk_length a.oldnodes.now a.rules.now a.steps.now a.c a.u a.id c.walk_of-w.result c.walk_of-w.ensures c.requires.1 c.loop-j.j in
    sym (ap not (sym c.loop-j.invariant ∙ fresh_seen (lines (protected_ids (graph_of a.oldnodes.now [] [] a.c) (list_of a.rules.now a.steps.now a.u)) a.before.now) (protected_ids (graph_of a.oldnodes.now [] [] a.c) (list_of a.rules.now a.steps.now a.u) a.id) c.loop-j.j (omega arith) (seen_so ∙ c.if-in_walks.true)))

pub in_walk-requires : goal.in_walk-requires
in_walk-requires c =
    let bounds : (c.walk_of-w.result.first + c.walk_of-w.result.count ≤ c.args.u.steps) × (2 * c.args.u.steps ≤ length c.args.steps.now) =
    let a = c.args in
    (walk_inside a.oldnodes.now a.rules.now a.steps.now a.c a.u a.id c.walk_of-w.result c.walk_of-w.ensures c.requires.1, (table-room a.rules.now a.steps.now a.u c.requires.1).step_room)
    in
    let a = c.args in
    ((table-room a.rules.now a.steps.now a.u c.requires.1).step_room, omega (arith, (bounds).0))

pub returns-then-in_walk : goal.returns-then-in_walk
returns-then-in_walk c =
    let node_so : get_or (protected_ids (graph_of c.args.oldnodes.now [] [] c.args.c) (list_of c.args.rules.now c.args.steps.now c.args.u) c.args.id) c.loop-j.j 0 ≡ c.id-node.result =
    let a = c.args in
    walk_node a.oldnodes.now a.rules.now a.steps.now a.c a.u a.id c.walk_of-w.result c.walk_of-w.ensures c.requires.1 c.loop-j.j (omega arith) ∙ sym (c.id-node.ensures ∙ ap (λ (s : Step). id_of s.node) c.at.ensures)
    in
    let seen_so : any (eqb (get_or (protected_ids (graph_of c.args.oldnodes.now [] [] c.args.c) (list_of c.args.rules.now c.args.steps.now c.args.u) c.args.id) c.loop-j.j 0)) (lines (protected_ids (graph_of c.args.oldnodes.now [] [] c.args.c) (list_of c.args.rules.now c.args.steps.now c.args.u)) c.args.before.now) ≡ c.in_walks.result =
    let a = c.args in
    ap (λ (x : ℕ). any (eqb x) (lines (protected_ids (graph_of a.oldnodes.now [] [] a.c) (list_of a.rules.now a.steps.now a.u)) a.before.now)) (node_so) ∙ sym c.in_walks.ensures
    in
    let again_so : any (eqb (get_or (protected_ids (graph_of c.args.oldnodes.now [] [] c.args.c) (list_of c.args.rules.now c.args.steps.now c.args.u) c.args.id) c.loop-j.j 0)) (take c.loop-j.j (protected_ids (graph_of c.args.oldnodes.now [] [] c.args.c) (list_of c.args.rules.now c.args.steps.now c.args.u) c.args.id)) ≡ c.in_walk.result =
    let a = c.args in
    ap₂ (λ (x : ℕ) (l : List ℕ). any (eqb x) l) (node_so) (sym (walk_before a.oldnodes.now a.rules.now a.steps.now a.c a.u a.id c.walk_of-w.result c.walk_of-w.ensures c.requires.1 c.loop-j.j (omega arith))) ∙ sym c.in_walk.ensures
    in
    let a = c.args in
    let n = walk_length a.oldnodes.now a.rules.now a.steps.now a.c a.u a.id c.walk_of-w.result c.walk_of-w.ensures c.requires.1 c.loop-j.j in
    sym (ap not (sym c.loop-j.invariant ∙ fresh_again (lines (protected_ids (graph_of a.oldnodes.now [] [] a.c) (list_of a.rules.now a.steps.now a.u)) a.before.now) (protected_ids (graph_of a.oldnodes.now [] [] a.c) (list_of a.rules.now a.steps.now a.u) a.id) c.loop-j.j (omega (arith, n)) (seen_so ∙ c.if-in_walks.false) (again_so ∙ c.if-in_walk.true)))

pub loop-j-preserved : goal.loop-j-preserved
loop-j-preserved c =
    let node_so : get_or (protected_ids (graph_of c.args.oldnodes.now [] [] c.args.c) (list_of c.args.rules.now c.args.steps.now c.args.u) c.args.id) c.loop-j.j 0 ≡ c.id-node.result =
    let a = c.args in
    walk_node a.oldnodes.now a.rules.now a.steps.now a.c a.u a.id c.walk_of-w.result c.walk_of-w.ensures c.requires.1 c.loop-j.j (omega arith) ∙ sym (c.id-node.ensures ∙ ap (λ (s : Step). id_of s.node) c.at.ensures)
    in
    let seen_so : any (eqb (get_or (protected_ids (graph_of c.args.oldnodes.now [] [] c.args.c) (list_of c.args.rules.now c.args.steps.now c.args.u) c.args.id) c.loop-j.j 0)) (lines (protected_ids (graph_of c.args.oldnodes.now [] [] c.args.c) (list_of c.args.rules.now c.args.steps.now c.args.u)) c.args.before.now) ≡ c.in_walks.result =
    let a = c.args in
    ap (λ (x : ℕ). any (eqb x) (lines (protected_ids (graph_of a.oldnodes.now [] [] a.c) (list_of a.rules.now a.steps.now a.u)) a.before.now)) (node_so) ∙ sym c.in_walks.ensures
    in
    let again_so : any (eqb (get_or (protected_ids (graph_of c.args.oldnodes.now [] [] c.args.c) (list_of c.args.rules.now c.args.steps.now c.args.u) c.args.id) c.loop-j.j 0)) (take c.loop-j.j (protected_ids (graph_of c.args.oldnodes.now [] [] c.args.c) (list_of c.args.rules.now c.args.steps.now c.args.u) c.args.id)) ≡ c.in_walk.result =
    let a = c.args in
    ap₂ (λ (x : ℕ) (l : List ℕ). any (eqb x) l) (node_so) (sym (walk_before a.oldnodes.now a.rules.now a.steps.now a.c a.u a.id c.walk_of-w.result c.walk_of-w.ensures c.requires.1 c.loop-j.j (omega arith))) ∙ sym c.in_walk.ensures
    in
    let a = c.args in
    let n = walk_length a.oldnodes.now a.rules.now a.steps.now a.c a.u a.id c.walk_of-w.result c.walk_of-w.ensures c.requires.1 c.loop-j.j in
    sym (fresh-next (lines (protected_ids (graph_of a.oldnodes.now [] [] a.c) (list_of a.rules.now a.steps.now a.u)) a.before.now) (protected_ids (graph_of a.oldnodes.now [] [] a.c) (list_of a.rules.now a.steps.now a.u) a.id) c.loop-j.j (omega (arith, n)) (seen_so ∙ c.if-in_walks.false) (again_so ∙ c.if-in_walk.false)) ∙ c.loop-j.invariant

pub returns : goal.returns
returns c =
    let a = c.args in
    let old = graph_of a.oldnodes.now [] [] a.c in
    let t = list_of a.rules.now a.steps.now a.u in
    let n = walk_length a.oldnodes.now a.rules.now a.steps.now a.c a.u a.id c.walk_of-w.result c.walk_of-w.ensures c.requires.1 c.loop-j.j in
    sym (ap not (sym c.loop-j.invariant ∙ fresh_end (lines (protected_ids old t) a.before.now) (protected_ids old t a.id) c.loop-j.j (omega arith)))
