use native.Mathlib.Omega.{arith}
use mathlib.Core.List.{[]}
use Rattle.store.specs.Graph.{graph_of}
use Rattle.records.proofs.Scan.{begins, ends, turns}
use Rattle.records.proofs.check_steps.scan_steps.Goals as goal

pub loop-at-init : goal.loop-at-init
loop-at-init c = begins (graph_of c.args.nodes.now [] c.args.links.now c.args.d) c.args.steps.now c.args.start c.requires.2 c.requires.3

pub loop-at-preserved : goal.loop-at-preserved
loop-at-preserved c =
    let a = c.args in
    let g = graph_of a.nodes.now [] a.links.now a.d in
    rw (c.next_fault-found.ensures, c.step_fault-number.ensures)
    (turns g a.steps.now a.start c.loop-at.found c.loop-at.before c.loop-at.at c.loop-at.invariant (omega arith))

pub returns : goal.returns
returns c = ends (graph_of c.args.nodes.now [] c.args.links.now c.args.d) c.args.steps.now c.args.start c.loop-at.found c.loop-at.before c.loop-at.at c.loop-at.invariant (omega arith)
