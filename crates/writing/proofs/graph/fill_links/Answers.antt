use mathlib.Core.Path.{ap}
use native.Mathlib.Omega.{arith}
use lib.ListN.{length}
use Rattle.kit.specs.Loops.{lines}
use Rattle.kit.proofs.Writes.{lines_end}
use Rattle.store.specs.Graph.{link, nodes_of, links_of}
use Rattle.sides.specs.Sides.{bare}
use Rattle.writing.specs.GraphText.{link_line, live_links}
use Rattle.writing.proofs.Filling.{filling_none, filling_fits, filling_next, filling_all}
use Rattle.writing.proofs.Links.{rest_after, rest-links, live_started, live_written, LinkStep, link-step, link_end_lem, link_lines_lem}
use Rattle.writing.proofs.graph.fill_links.Goals as goal

pub loop-e-init : goal.loop-e-init
loop-e-init c =
    let a = c.args in
    rw (rest-links (live_links (bare a.nodes.now a.links.now a.c)) (live_started (nodes_of a.c.nodes a.nodes.now) (links_of a.c.links a.links.now) c.requires.nodes_value.0)) (filling_none a.out.now a.at (lines link_line (live_links (bare a.nodes.now a.links.now a.c))))

pub next_link-requires : goal.next_link-requires
next_link-requires c = record { nodes_in_bounds = c.requires.nodes_in_bounds; nodes_value = c.requires.nodes_value }

pub returns : goal.returns
returns c =
    let a = c.args in
    filling_all c.loop-e.invariant (lines_end link_line (link_end_lem c.loop-e.last (live_links (bare a.nodes.now a.links.now a.c)) (live_started (nodes_of a.c.nodes a.nodes.now) (links_of a.c.links a.links.now) c.requires.nodes_value.0) c.in_default.ensures.value))

pub fill_link-place-requires : goal.fill_link-place-requires
fill_link-place-requires c =
    let step : LinkStep c.loop-e.last (live_links (bare c.args.nodes.now c.args.links.now c.args.c)) c.in-Some.e =
    let a = c.args in
    link-step c.loop-e.last c.in-Some.e (live_written (nodes_of a.c.nodes a.nodes.now) (links_of a.c.links a.links.now) c.requires.nodes_value.1) c.in-Some.ensures.value c.in-Some.ensures.some
    in
    let a = c.args in
    filling_fits (link_line (link c.in-Some.e 0)) (lines link_line (rest_after c.in-Some.e (live_links (bare a.nodes.now a.links.now a.c)))) c.loop-e.invariant (link_lines_lem (step)) c.requires.c_bound

pub loop-e-smaller : goal.loop-e-smaller
loop-e-smaller c =
    let step : LinkStep c.loop-e.last (live_links (bare c.args.nodes.now c.args.links.now c.args.c)) c.in-Some.e =
    let a = c.args in
    link-step c.loop-e.last c.in-Some.e (live_written (nodes_of a.c.nodes a.nodes.now) (links_of a.c.links a.links.now) c.requires.nodes_value.1) c.in-Some.ensures.value c.in-Some.ensures.some
    in
    omega (arith, ap length (step).rest)

pub loop-e-preserved : goal.loop-e-preserved
loop-e-preserved c =
    let step : LinkStep c.loop-e.last (live_links (bare c.args.nodes.now c.args.links.now c.args.c)) c.in-Some.e =
    let a = c.args in
    link-step c.loop-e.last c.in-Some.e (live_written (nodes_of a.c.nodes a.nodes.now) (links_of a.c.links a.links.now) c.requires.nodes_value.1) c.in-Some.ensures.value c.in-Some.ensures.some
    in
    filling_next c.loop-e.invariant (link_lines_lem (step)) c.fill_link-place.ensures c.fill_link-place.auto.out
