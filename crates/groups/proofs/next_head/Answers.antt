use mathlib.Core.Path.{refl, sym, ap, ◌∙◌}
use Rattle.store.specs.Graph.{Graph, graph_of}
use Rattle.formed.proofs.Says.{formed_room}
use Rattle.sides.specs.Sides.{right_of, next_above}
use Rattle.groups.specs.Search.{first_met}
use Rattle.groups.proofs.Along.{along_end, along_hit, along_miss, along_less, right_sorted, heads-first}
use Rattle.groups.proofs.next_head.Goals as goal

pub next_right-requires : goal.next_right-requires
next_right-requires c =
    let a = c.args in
    let r = formed_room a.nodes.now a.text.now a.links.now a.c c.requires in
    (r.node_room, r.link_room)

pub returns-clause-value : goal.returns-clause-value
returns-clause-value c =
    let a = c.args in
    let g : Graph = graph_of a.nodes.now a.text.now a.links.now a.c in
    along_end (first_met g (right_of g a.v)) (right_sorted g a.v) a.above c.loop-u.at 0 c.loop-u.invariant c.in_default.ensures.value refl
    ∙ sym (ap (next_above a.above) (heads-first g a.v))

pub returns-then-is_head-clause-value : goal.returns-then-is_head-clause-value
returns-then-is_head-clause-value c =
    let a = c.args in
    let g : Graph = graph_of a.nodes.now a.text.now a.links.now a.c in
    along_hit (first_met g (right_of g a.v)) (right_sorted g a.v) a.above c.loop-u.at c.in-Some.u.packed c.loop-u.invariant c.in-Some.ensures.value c.in-Some.ensures.some (sym c.is_head.ensures ∙ c.if-is_head.true)
    ∙ sym (ap (next_above a.above) (heads-first g a.v))

pub loop-u-smaller : goal.loop-u-smaller
loop-u-smaller c =
    let a = c.args in
    let g : Graph = graph_of a.nodes.now a.text.now a.links.now a.c in
    along_less (first_met g (right_of g a.v)) (right_sorted g a.v) a.above c.loop-u.at c.in-Some.u.packed c.loop-u.invariant c.in-Some.ensures.value c.in-Some.ensures.some

pub loop-u-preserved : goal.loop-u-preserved
loop-u-preserved c =
    let a = c.args in
    let g : Graph = graph_of a.nodes.now a.text.now a.links.now a.c in
    along_miss (first_met g (right_of g a.v)) (right_sorted g a.v) a.above c.loop-u.at c.in-Some.u.packed c.loop-u.invariant c.in-Some.ensures.value c.in-Some.ensures.some (sym c.is_head.ensures ∙ c.if-is_head.false)
