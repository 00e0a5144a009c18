use mathlib.Core.List.{[]}
use mathlib.Core.Path.{refl}
use borrow.Author.Rules.{rules}
use Rattle.kit.proofs.Writes.{lines_more}
use Rattle.store.specs.Graph.{graph_of}
use Rattle.events.specs.Events.{list_of}
use Rattle.text.proofs.Cuts.{piece_last, piece_more}
use Rattle.paths.specs.PathText.{new_line}
use Rattle.drawing.proofs.Capping.{capping_none, capping_next, capping_all, capping_stop}
use Rattle.paths.proofs.line.add_lines.Goals as goal

pub loop-c-init : goal.loop-c-init
loop-c-init c = (search rules, capping_none _ c.requires.fact)

pub add_line-place-requires : goal.add_line-place-requires
add_line-place-requires c = record { nodes_in_bounds = c.requires.nodes_in_bounds; fact = c.loop-c.invariant.1.room }

pub returns-then-end-text : goal.returns-then-end-text
returns-then-end-text c =
    let a = c.args in
    let f = new_line (graph_of a.nodes.now [] [] a.c) (list_of a.rules.now a.steps.now a.u) in
    capping_all (capping_next c.loop-c.invariant.1 (lines_more f (piece_last c.next_line-end.ensures c.if-end-text.true)) c.add_line-place.ensures (search rules)) refl

pub returns-then-stop-place : goal.returns-then-stop-place
returns-then-stop-place c =
    let a = c.args in
    let f = new_line (graph_of a.nodes.now [] [] a.c) (list_of a.rules.now a.steps.now a.u) in
    capping_stop (capping_next c.loop-c.invariant.1 (lines_more f (piece_more c.next_line-end.ensures c.if-end-text.false)) c.add_line-place.ensures (search rules)) c.if-stop-place.true

pub loop-c-preserved : goal.loop-c-preserved
loop-c-preserved c =
    let a = c.args in
    let f = new_line (graph_of a.nodes.now [] [] a.c) (list_of a.rules.now a.steps.now a.u) in
    (search rules, capping_next c.loop-c.invariant.1 (lines_more f (piece_more c.next_line-end.ensures c.if-end-text.false)) c.add_line-place.ensures (search rules))
