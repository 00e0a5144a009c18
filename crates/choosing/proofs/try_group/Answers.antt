use mathlib.Core.Path.{◌≡◌, sym, ap, ◌∙◌}
use native.Mathlib.Omega.{arith}
use lib.ListN.{length, take}
use Rattle.kit.proofs.Laws.{length-decode}
use Rattle.store.specs.Graph.{Graph, graph_of, node_layout}
use Rattle.sides.specs.Sides.{right_of}
use Rattle.affix.proofs.LookedUp.{formed_readable}
use Rattle.groups.specs.Groups.{group_of}
use Rattle.choosing.specs.Scan.{must_collapse}
use Rattle.choosing.proofs.Trying.{tried-not, tried-small, tried_wide, tried_taken, written-size, written_back}
use Rattle.choosing.proofs.try_group.Goals as goal

pub returns-then-n-lt2-clause-value : goal.returns-then-n-lt2-clause-value
returns-then-n-lt2-clause-value c =
    let a = c.args in
    tried-small (graph_of a.nodes.now a.text.now a.links.now a.c) a.v a.u a.protected.now (omega (arith, c.if-n-lt2.true, c.count_of_key-n.ensures))

pub returns-then-members-n-clause-value : goal.returns-then-members-n-clause-value
returns-then-members-n-clause-value c =
    let a = c.args in
    tried_wide (graph_of a.nodes.now a.text.now a.links.now a.c) a.v a.u a.protected.now (length a.members.now) (omega (arith, c.requires.1, length-decode node_layout a.c.nodes a.nodes.now)) (omega (arith, c.if-members-n.true, c.count_of_key-n.ensures))

pub slice_bounds-must_collapse-end-2 : goal.slice_bounds-must_collapse-end-2
slice_bounds-must_collapse-end-2 c =
    let size : c.count_of_key-n.result ≡ length (take c.count_of_key-n.result c.write_group.new.members) =
    let a = c.args in
    sym (written-size (graph_of a.nodes.now a.text.now a.links.now a.c) a.v a.u a.members.now _ c.count_of_key-n.result c.write_group.result c.write_group.ensures c.count_of_key-n.ensures c.if-members-n.false)
    in
    size

pub must_collapse-requires : goal.must_collapse-requires
must_collapse-requires c =
    let size : c.count_of_key-n.result ≡ length (take c.count_of_key-n.result c.write_group.new.members) =
    let a = c.args in
    sym (written-size (graph_of a.nodes.now a.text.now a.links.now a.c) a.v a.u a.members.now _ c.count_of_key-n.result c.write_group.result c.write_group.ensures c.count_of_key-n.ensures c.if-members-n.false)
    in
    let a = c.args in
    (formed_readable a.nodes.now a.text.now a.links.now a.c c.requires.0, omega (arith, size, c.if-n-lt2.false))

pub returns-then-must_collapse-clause-value : goal.returns-then-must_collapse-clause-value
returns-then-must_collapse-clause-value c =
    let tested : let g = graph_of c.args.nodes.now c.args.text.now c.args.links.now c.args.c in must_collapse g c.args.protected.now (group_of g (right_of g c.args.v) c.args.u) ≡ c.must_collapse.result =
    let a = c.args in
    let g : Graph = graph_of a.nodes.now a.text.now a.links.now a.c in
    sym (ap (must_collapse g a.protected.now) (written_back g a.v a.u a.members.now _ c.count_of_key-n.result c.write_group.result c.write_group.ensures c.count_of_key-n.ensures c.if-members-n.false))
    ∙ sym c.must_collapse.ensures
    in
    let a = c.args in
    tried_taken (graph_of a.nodes.now a.text.now a.links.now a.c) a.v a.u a.members.now _ c.count_of_key-n.result c.write_group.result c.write_group.ensures c.count_of_key-n.ensures c.if-members-n.false a.protected.now (tested ∙ c.if-must_collapse.true)

pub returns-clause-value : goal.returns-clause-value
returns-clause-value c =
    let tested : let g = graph_of c.args.nodes.now c.args.text.now c.args.links.now c.args.c in must_collapse g c.args.protected.now (group_of g (right_of g c.args.v) c.args.u) ≡ c.must_collapse.result =
    let a = c.args in
    let g : Graph = graph_of a.nodes.now a.text.now a.links.now a.c in
    sym (ap (must_collapse g a.protected.now) (written_back g a.v a.u a.members.now _ c.count_of_key-n.result c.write_group.result c.write_group.ensures c.count_of_key-n.ensures c.if-members-n.false))
    ∙ sym c.must_collapse.ensures
    in
    let a = c.args in
    tried-not (graph_of a.nodes.now a.text.now a.links.now a.c) a.v a.u a.protected.now (tested ∙ c.if-must_collapse.false)
