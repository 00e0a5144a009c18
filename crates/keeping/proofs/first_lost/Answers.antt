use mathlib.Core.List.{[]}
use Prim.Native.Nat.{ℕ, ◌-◌}
use mathlib.Core.Path.{◌≡◌, sym, ap, ◌∙◌}
use native.Mathlib.Omega.{arith}
use borrow.Author.Tests.{not-true, not-false}
use lib.ListN.{take, drop}
use Rattle.handle.specs.declared.Edge.{Edge}
use Rattle.store.specs.Graph.{link, links_of, graph_of}
use Rattle.events.specs.Events.{list_of}
use Rattle.keeping.specs.Kept.{link_kept}
use Rattle.keeping.specs.Search.{lost_links}
use Rattle.keeping.proofs.LinksKept.{none_lost, link_stays, link_goes}
use Rattle.store.proofs.Fields.{link_at}
use Rattle.keeping.proofs.first_lost.Goals as goal

pub loop-i-init : goal.loop-i-init
loop-i-init c =
    let a = c.args in
    none_lost (graph_of a.oldnodes.now [] [] a.c) (graph_of a.nodes.now [] a.links.now a.d) (list_of a.rules.now a.steps.now a.u) a.c.links a.oldlinks.now

pub link_kept-requires : goal.link_kept-requires
link_kept-requires c = record { nodes_in_bounds = (c.requires.nodes_in_bounds.0, c.requires.nodes_in_bounds.2, c.requires.nodes_in_bounds.3); u_value = (c.requires.u_value.0, c.requires.u_value.1) }

pub loop-i-preserved-then-not-link_kept : goal.loop-i-preserved-then-not-link_kept
loop-i-preserved-then-not-link_kept c =
    let kept_so : link_kept (graph_of c.args.oldnodes.now [] [] c.args.c) (graph_of c.args.nodes.now [] c.args.links.now c.args.d) (list_of c.args.rules.now c.args.steps.now c.args.u) (link_at c.args.oldlinks.now (c.loop-i.i - 1)) ≡ c.link_kept.result =
    let a = c.args in
    ap (λ (x : Edge). link_kept (graph_of a.oldnodes.now [] [] a.c) (graph_of a.nodes.now [] a.links.now a.d) (list_of a.rules.now a.steps.now a.u) (link x 0)) (sym c.ends_at.ensures) ∙ sym c.link_kept.ensures
    in
    let a = c.args in
    link_goes (graph_of a.oldnodes.now [] [] a.c) (graph_of a.nodes.now [] a.links.now a.d) (list_of a.rules.now a.steps.now a.u) a.c.links a.oldlinks.now c.requires.u_value.2 c.loop-i.i c.loop-i.best (omega arith) (omega arith) c.loop-i.invariant (kept_so ∙ not-true c.link_kept.result c.if-not-link_kept.true-raw) c.earlier-best.result c.earlier-best.ensures

pub loop-i-preserved : goal.loop-i-preserved
loop-i-preserved c =
    let kept_so : link_kept (graph_of c.args.oldnodes.now [] [] c.args.c) (graph_of c.args.nodes.now [] c.args.links.now c.args.d) (list_of c.args.rules.now c.args.steps.now c.args.u) (link_at c.args.oldlinks.now (c.loop-i.i - 1)) ≡ c.link_kept.result =
    let a = c.args in
    ap (λ (x : Edge). link_kept (graph_of a.oldnodes.now [] [] a.c) (graph_of a.nodes.now [] a.links.now a.d) (list_of a.rules.now a.steps.now a.u) (link x 0)) (sym c.ends_at.ensures) ∙ sym c.link_kept.ensures
    in
    let a = c.args in
    link_stays (graph_of a.oldnodes.now [] [] a.c) (graph_of a.nodes.now [] a.links.now a.d) (list_of a.rules.now a.steps.now a.u) a.c.links a.oldlinks.now c.requires.u_value.2 c.loop-i.i c.loop-i.best (omega arith) (omega arith) c.loop-i.invariant (kept_so ∙ not-false c.link_kept.result c.if-not-link_kept.false-raw)

pub returns : goal.returns
returns c =
    let a = c.args in
    let z : c.loop-i.i ≡ 0 = omega arith in
    c.loop-i.invariant
    ∙ ap (λ (k : ℕ). take 1 (lost_links (graph_of a.oldnodes.now [] [] a.c) (graph_of a.nodes.now [] a.links.now a.d) (list_of a.rules.now a.steps.now a.u) (drop k (links_of a.c.links a.oldlinks.now)))) z
