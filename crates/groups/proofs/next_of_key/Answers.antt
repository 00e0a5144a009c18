use mathlib.Core.Path.{refl, sym, ◌∙◌}
use Rattle.store.specs.Graph.{Graph, graph_of}
use Rattle.formed.proofs.Says.{formed_room}
use Rattle.groups.specs.Groups.{same_key}
use Rattle.groups.proofs.Along.{along_end, along_hit, along_miss, along_less, right_sorted}
use Rattle.groups.proofs.next_of_key.Goals as goal

pub next_right-requires : goal.next_right-requires
next_right-requires c =
    let a = c.args in
    let r = formed_room a.nodes.now a.text.now a.links.now a.c c.requires in
    (r.node_room, r.link_room)

pub returns-clause-value : goal.returns-clause-value
returns-clause-value c =
    let a = c.args in
    let g : Graph = graph_of a.nodes.now a.text.now a.links.now a.c in
    along_end (same_key g a.u) (right_sorted g a.v) a.above c.loop-w.at 0 c.loop-w.invariant c.in_default.ensures.value refl

pub returns-then-same_key-clause-value : goal.returns-then-same_key-clause-value
returns-then-same_key-clause-value c =
    let a = c.args in
    let g : Graph = graph_of a.nodes.now a.text.now a.links.now a.c in
    along_hit (same_key g a.u) (right_sorted g a.v) a.above c.loop-w.at c.in-Some.w.packed c.loop-w.invariant c.in-Some.ensures.value c.in-Some.ensures.some (sym c.same_key.ensures ∙ c.if-same_key.true)

pub loop-w-smaller : goal.loop-w-smaller
loop-w-smaller c =
    let a = c.args in
    let g : Graph = graph_of a.nodes.now a.text.now a.links.now a.c in
    along_less (same_key g a.u) (right_sorted g a.v) a.above c.loop-w.at c.in-Some.w.packed c.loop-w.invariant c.in-Some.ensures.value c.in-Some.ensures.some

pub loop-w-preserved : goal.loop-w-preserved
loop-w-preserved c =
    let a = c.args in
    let g : Graph = graph_of a.nodes.now a.text.now a.links.now a.c in
    along_miss (same_key g a.u) (right_sorted g a.v) a.above c.loop-w.at c.in-Some.w.packed c.loop-w.invariant c.in-Some.ensures.value c.in-Some.ensures.some (sym c.same_key.ensures ∙ c.if-same_key.false)
