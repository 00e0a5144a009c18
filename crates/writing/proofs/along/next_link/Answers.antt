use mathlib.Core.Path.{◌≡◌, sym, ap, ◌∙◌}
use native.Mathlib.Omega.{arith}
use borrow.Author.Tests.{not-false}
use Rattle.kit.proofs.Laws.{left_none}
use Rattle.handle.proofs.Edges.{same_ends_lem}
use Rattle.handle.specs.declared.Edge.{Edge}
use Rattle.store.specs.Graph.{ends, link_layout, nodes_of, links_of}
use Rattle.store.specs.Views.{live_link}
use Rattle.sides.specs.Sides.{bare}
use Rattle.writing.specs.GraphText.{live_links}
use Rattle.writing.specs.Search.{sooner}
use Rattle.writing.proofs.Links.{first_from, link_live, link_dead, link-same, live_started, no_link}
use Rattle.writing.proofs.along.next_link.Goals as goal
use Rattle.writing.proofs.along.next_link.Goals.{else-ne-via-then-ne+else-live_link, else-ne-via-else-ne}

pub loop-i-init : goal.loop-i-init
loop-i-init c =
    let a = c.args in
    sym (rw (left_none link_layout a.c.links a.c.links a.links.now (omega arith)))

pub loop-i-preserved-then-live_link : goal.loop-i-preserved-then-live_link
loop-i-preserved-then-live_link c =
    let a = c.args in
    (c.sooner-found.ensures ∙ ap (λ (e : Edge). sooner a.last e c.loop-i.best) (c.ends.ensures ∙ ap ends c.at-l.ensures)) ∙ link_live a.last (nodes_of a.c.nodes a.nodes.now) a.c.links a.links.now c.requires.nodes_value.0 c.requires.nodes_value.1 c.loop-i.i c.loop-i.best (omega arith) (omega arith) c.loop-i.invariant (ap (live_link (nodes_of a.c.nodes a.nodes.now)) (sym c.at-l.ensures) ∙ sym c.live_link.ensures ∙ c.if-live_link.true)

pub loop-i-preserved : goal.loop-i-preserved
loop-i-preserved c =
    let a = c.args in (elim c.else-ne.branch [
      | else-ne-via-then-ne+else-live_link x ↦ link_dead a.last (nodes_of a.c.nodes a.nodes.now) a.c.links a.links.now c.requires.nodes_value.0 c.requires.nodes_value.1 c.loop-i.i c.loop-i.best (omega arith) (omega arith) c.loop-i.invariant (ap (live_link (nodes_of a.c.nodes a.nodes.now)) (sym c.at-l.ensures) ∙ sym x.live_link.ensures ∙ x.if-live_link.false)
      | else-ne-via-else-ne x ↦ link-same a.last (nodes_of a.c.nodes a.nodes.now) a.c.links a.links.now c.requires.nodes_value.0 c.requires.nodes_value.1 c.loop-i.i c.loop-i.best (omega arith) (omega arith) c.loop-i.invariant (sym (c.sooner-found.ensures ∙ ap (λ (e : Edge). sooner a.last e c.loop-i.best) (c.ends.ensures ∙ ap ends c.at-l.ensures)) ∙ same_ends_lem c.sooner-found.result c.loop-i.best (not-false _ (sym c.ne.ensures ∙ x.if-ne.false)))
    ])

pub returns-then-from-eq0-clause-value : goal.returns-then-from-eq0-clause-value
returns-then-from-eq0-clause-value c =
    let a = c.args in
    let z : c.loop-i.i ≡ 0 = omega arith in
    let e = c.loop-i.invariant ∙ ap (first_from a.last (nodes_of a.c.nodes a.nodes.now) a.c.links a.links.now) z in
    no_link a.last (live_links (bare a.nodes.now a.links.now a.c)) (live_started (nodes_of a.c.nodes a.nodes.now) (links_of a.c.links a.links.now) c.requires.nodes_value.0) (sym (ap (λ (x : Edge). x.from.packed) e) ∙ c.if-from-eq0.true)

pub returns-clause-value : goal.returns-clause-value
returns-clause-value c =
    let a = c.args in
    let z : c.loop-i.i ≡ 0 = omega arith in
    c.loop-i.invariant ∙ ap (first_from a.last (nodes_of a.c.nodes a.nodes.now) a.c.links a.links.now) z
