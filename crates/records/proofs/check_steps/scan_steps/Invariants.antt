use mathlib.Core.List.{[]}
use Rattle.store.specs.Graph.{graph_of}
use Rattle.records.proofs.Scan.{Scans}
use Rattle.records.proofs.check_steps.scan_steps.Given as goal

abbrev pub invariant-loop-at : goal.invariant-loop-at
invariant-loop-at l = Scans (graph_of l.nodes [] l.links l.d) l.steps l.fn.start l.found l.before l.at
