use mathlib.Core.List.{[]}
use borrow.Author.Rules.{rules}
use Rattle.store.specs.Graph.{graph_of}
use Rattle.events.specs.Events.{list_of}
use Rattle.drawing.proofs.Capping.{capped_is, capped-then}
use Rattle.paths.proofs.Fielded.{path_line}
use Rattle.paths.proofs.line.add_path_line.Goals as goal

pub add_path-q-requires : goal.add_path-q-requires
add_path-q-requires c = record { nodes_in_bounds = c.requires.nodes_in_bounds; fact = search rules }

pub returns : goal.returns
returns c =
    let a = c.args in
    capped_is (path_line (graph_of a.nodes.now [] [] a.c) (list_of a.rules.now a.steps.now a.u) a.line.now _ c.requires.fact.1 c.field.ensures) (capped-then c.requires.fact.0.before (capped-then c.requires.fact.0.before c.add_fields-p.ensures c.add_path-q.ensures) c.add_bytes.ensures)
