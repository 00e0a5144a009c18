use mathlib.Core.Path.{◌≡◌, sym, ap, ◌∙◌}
use mathlib.Core.Bool.{true}
use native.Mathlib.Omega.{arith}
use borrow.Author.Tests.{lt-leb}
use lib.ListN.{length}
use Rattle.kit.proofs.Refusals.{passed_is}
use Rattle.handle.specs.Handle.{id_of}
use Rattle.store.specs.Graph.{graph_of, nodes_of, handle}
use Rattle.store.specs.Views.{live_node}
use Rattle.formed.specs.WellFormed.{graph_number}
use Rattle.formed.proofs.Says.{number-zero}
use Rattle.groups.specs.Groups.{groups_of, members_of}
use Rattle.groups.proofs.Along.{formed_number}
use Rattle.groups.proofs.Groups.{groups-length}
use Rattle.asking.proofs.enumerate_branch.give.Goals as goal

pub count_right-requires-clause-nodes_value : goal.count_right-requires-clause-nodes_value
count_right-requires-clause-nodes_value c =
    let a = c.args in
    formed_number a.nodes.now a.text.now a.links.now a.c (number-zero a.nodes.now a.text.now a.links.now a.c (passed_is c.graph_number.ensures c.in_ok-graph_number.was)).0

pub returns-then-members-count_right : goal.returns-then-members-count_right
returns-then-members-count_right c =
    let a = c.args in
    let g = graph_of a.nodes.now a.text.now a.links.now a.c in
    let zero : graph_number c.args.nodes.now c.args.text.now c.args.links.now c.args.c ≡ 0 =
    passed_is c.graph_number.ensures c.in_ok-graph_number.was
    in
    let live : live_node (id_of (handle c.args.v)) (nodes_of c.args.c.nodes c.args.nodes.now) ≡ true =
    ap (λ k. live_node k (nodes_of a.c.nodes a.nodes.now)) (sym c.id.ensures) ∙ sym c.if-not-live_node.ensures
    in
    rw (zero, live, lt-leb (length (members_of (groups_of g (handle a.v)))) (length a.members.now) (omega (arith, groups-length g (handle a.v), c.count_right.ensures, c.if-members-count_right.true)))
