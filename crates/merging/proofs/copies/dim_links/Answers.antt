use mathlib.Core.Path.{refl, ap, ◌∙◌}
use mathlib.Core.Bool.{cond}
use mathlib.Core.List.{map}
use native.Mathlib.Omega.{arith}
use Rattle.kit.proofs.Laws.{left_none}
use Rattle.store.specs.Graph.{link_layout, nodes_of}
use Rattle.store.specs.declared.Link.{Link}
use Rattle.store.specs.Views.{live_link}
use Rattle.store.proofs.Fields.{left-link}
use Rattle.merging.specs.Plan.{dim}
use Rattle.merging.proofs.Putting.{put_one, all-put, dim-new}
use Rattle.merging.proofs.copies.dim_links.Goals as goal

pub loop-i-init : goal.loop-i-init
loop-i-init c = record { size = refl; sofar = refl; rest = refl }

pub put_link-requires : goal.put_link-requires
put_link-requires c = omega (arith, c.loop-i.invariant.size)

pub loop-i-preserved : goal.loop-i-preserved
loop-i-preserved c =
    let a = c.args in
    put_one c.loop-i.invariant (dim-new (nodes_of a.node_count a.nodes.now) c.dim_mark-mark.result (left-link a.count c.loop-i.i a.links.now (omega arith)) (c.dim_mark-mark.ensures ∙ ap (λ (r : Link). cond (live_link (nodes_of a.node_count a.nodes.now) r) 0 1) c.at-l.ensures)) (omega arith) (rw c.at-l.ensures at c.put_link.ensures)

pub shape_of-plan : goal.shape_of-plan
shape_of-plan c = c.loop-i.invariant.size

pub returns : goal.returns
returns c =
    let a = c.args in
    all-put c.loop-i.invariant (omega arith) (ap (map (dim (nodes_of a.node_count a.nodes.now))) (left_none link_layout a.count c.loop-i.i a.links.now (omega arith))) c.requires.2
