use Prim.Native.Nat.{ℕ, ◌≤◌}
use mathlib.Core.Path.{◌≡◌, sym, ap, ◌∙◌}
use mathlib.Core.Bool.{true}
use mathlib.Core.List.{List}
use native.Mathlib.Omega.{arith}
use borrow.Author.Rules.{rules}
use lib.ListN.{length, get_or, length-map}
use Rattle.kit.specs.Loops.{all}
use Rattle.kit.proofs.Laws.{length-decode}
use Rattle.kit.proofs.Meaning.{all_mem, all_of}
use Rattle.handle.specs.declared.Handle.{Handle}
use Rattle.handle.specs.Handle.{max_id, id_of}
use Rattle.store.specs.Graph.{handle, link_layout, nodes_of, links_of}
use Rattle.store.specs.declared.Node.{Node}
use Rattle.store.specs.Views.{stored, live_node}
use Rattle.affix.specs.Prefix.{handles_of, members_live}
use Rattle.affix.proofs.Runs.{left-handle}
use Rattle.events.specs.Events.{list_of}
use Rattle.longer.specs.declared.Run.{Run}
use Rattle.longer.specs.Longer.{beginning}
use Rattle.collapsing.specs.Put.{state_by}
use Rattle.collapsing.specs.Outcome.{lent, first_of}
use Rattle.longer.proofs.Turns.{first_fits}
use Rattle.collapsing.proofs.Stored.{all_stored_lem}
use Rattle.store.proofs.Lookups.{live-stored}
use Rattle.merging.proofs.Putting.{remark-length}
use Rattle.collapsing.proofs.make.make.Goals as goal

are_stored : (nodes : List Node) (ms : List Handle) → members_live nodes ms ≡ true → all (λ m. stored (id_of m) nodes) ms ≡ true
are_stored nodes ms t = all_of _ ms (λ m k. live-stored (id_of m) nodes (all_mem (λ (u : Handle). live_node (id_of u) nodes) t k))

first_is : (ns : List ℕ) → 1 ≤ length ns → first_of (handles_of ns) ≡ handle (get_or ns 0 0)
first_is ns h = ap first_of (left-handle ns 0 h)

pub bounds-members-0 : goal.bounds-members-0
bounds-members-0 c =
    let some : 1 ≤ length c.args.members.now =
    omega (arith, c.requires.storable.passed.some, length-map c.args.members.now handle)
    in
    let h = some in search rules

pub begin-run-requires : goal.begin-run-requires
begin-run-requires c =
    let some : 1 ≤ length c.args.members.now =
    omega (arith, c.requires.storable.passed.some, length-map c.args.members.now handle)
    in
    let a = c.args in
    record { count_in_bounds = omega arith; first_bound = first_fits a.p (nodes_of a.c.nodes a.nodes.now) max_id a.members.now (some) c.requires.storable.passed.enough }

pub append_events-used-requires : goal.append_events-used-requires
append_events-used-requires c =
    let some : 1 ≤ length c.args.members.now =
    omega (arith, c.requires.storable.passed.some, length-map c.args.members.now handle)
    in
    record { node_count_in_bounds = (omega arith, some); members_bound = c.requires.storable.passed.enough; room_for = c.requires.room_for }

pub merge_nodes-count-requires : goal.merge_nodes-count-requires
merge_nodes-count-requires c =
    let some : 1 ≤ length c.args.members.now =
    omega (arith, c.requires.storable.passed.some, length-map c.args.members.now handle)
    in
    let a = c.args in
    let k = c.requires.storable in
    record { in_bounds = (some, k.once); members_value = (are_stored (nodes_of a.c.nodes a.nodes.now) (handles_of a.members.now) k.passed.live, k.passed.once); by_index = k.spans; members_bound = k.passed.enough; members_in_bounds = c.requires.members_in_bounds.0 }

pub put_back-requires : goal.put_back-requires
put_back-requires c = (c.requires.members_in_bounds.1, c.requires.members_in_bounds.3, c.requires.members_in_bounds.2)

pub returns : goal.returns
returns c =
    let some : 1 ≤ length c.args.members.now =
    omega (arith, c.requires.storable.passed.some, length-map c.args.members.now handle)
    in
    let a = c.args in
    let nodes = nodes_of a.c.nodes a.nodes.now in
    let old = links_of a.c.links a.links.now in
    let new = links_of a.n a.plan.now in
    let t = list_of a.rules.now a.steps.now a.u in
    let ms = handles_of a.members.now in
    let first = first_is a.members.now (some) in
    let x = ap (λ (r : Run). r.x) c.begin-run.ensures ∙ ap (λ (h : Handle). (beginning a.p nodes h).x) (sym first) in
    all_stored_lem (beginning a.p nodes (first_of ms)).x (state_by a.p nodes old t new ms) a.c (lent a.nodes.now a.links.now a.rules.now a.steps.now) c.begin-run.result.x c.merge_nodes-count.result a.n c.append_events-used.result _ _ _ _
    x c.merge_nodes-count.ensures.value (sym (remark-length old new ∙ length-decode link_layout a.n a.plan.now)) c.append_events-used.ensures.used c.merge_nodes-count.ensures.nodes_after c.put_back.ensures c.append_events-used.ensures.rules_now c.append_events-used.ensures.steps_now
