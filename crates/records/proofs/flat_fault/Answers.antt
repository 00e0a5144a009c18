use mathlib.Core.List.{[]}
use mathlib.Core.Path.{◌≡◌, sym, ◌∙◌}
use mathlib.Core.Bool.{true, false}
use borrow.Author.Tests.{eq-eqb, ne_eqb, not-true, not-false}
use lib.Dec.{eqb}
use Rattle.store.specs.Graph.{graph_of}
use Rattle.records.specs.Records.{record_of, in_range}
use Rattle.records.proofs.Ranged.{id_high, one_of_two, before_out, itself_out, both_in}
use Rattle.records.proofs.flat_fault.Goals as goal

pub returns-then-not-in_range : goal.returns-then-not-in_range
returns-then-not-in_range c = before_out ((graph_of c.args.nodes.now [] c.args.links.now c.args.d)) ((eqb c.args.before c.args.at)) ((record_of c.args.before_id c.args.before_direction c.args.before_len)) ((record_of c.args.id c.args.direction c.args.len)) (sym c.in_range.ensures ∙ not-true c.in_range.result c.if-not-in_range.true-raw)

pub returns-then-not-in_range-2 : goal.returns-then-not-in_range-2
returns-then-not-in_range-2 c =
    let last_in : in_range ((record_of c.args.before_id c.args.before_direction c.args.before_len)) ≡ true =
    sym c.in_range.ensures ∙ not-false c.in_range.result c.if-not-in_range.false-raw
    in
    itself_out ((graph_of c.args.nodes.now [] c.args.links.now c.args.d)) ((eqb c.args.before c.args.at)) ((record_of c.args.before_id c.args.before_direction c.args.before_len)) ((record_of c.args.id c.args.direction c.args.len)) (last_in) (sym c.in_range-2.ensures ∙ not-true c.in_range-2.result c.if-not-in_range-2.true-raw)

pub pack-last-requires : goal.pack-last-requires
pack-last-requires c =
    let last_in : in_range ((record_of c.args.before_id c.args.before_direction c.args.before_len)) ≡ true =
    sym c.in_range.ensures ∙ not-false c.in_range.result c.if-not-in_range.false-raw
    in
    (id_high ((record_of c.args.before_id c.args.before_direction c.args.before_len)) (last_in), one_of_two ((record_of c.args.before_id c.args.before_direction c.args.before_len)) (last_in))

pub pack-node-requires : goal.pack-node-requires
pack-node-requires c =
    let this_in : in_range ((record_of c.args.id c.args.direction c.args.len)) ≡ true =
    sym c.in_range-2.ensures ∙ not-false c.in_range-2.result c.if-not-in_range-2.false-raw
    in
    let s = (record_of c.args.id c.args.direction c.args.len) in (id_high s (this_in), one_of_two s (this_in))

pub returns-then-before-at : goal.returns-then-before-at
returns-then-before-at c =
    let last_in : in_range ((record_of c.args.before_id c.args.before_direction c.args.before_len)) ≡ true =
    sym c.in_range.ensures ∙ not-false c.in_range.result c.if-not-in_range.false-raw
    in
    let this_in : in_range ((record_of c.args.id c.args.direction c.args.len)) ≡ true =
    sym c.in_range-2.ensures ∙ not-false c.in_range-2.result c.if-not-in_range-2.false-raw
    in
    c.step_fault.ensures ∙ both_in ((graph_of c.args.nodes.now [] c.args.links.now c.args.d)) ((eqb c.args.before c.args.at)) ((record_of c.args.before_id c.args.before_direction c.args.before_len)) ((record_of c.args.id c.args.direction c.args.len)) c.pack-last.result c.pack-node.result c.pack-last.ensures c.pack-node.ensures (last_in) (this_in) true (eq-eqb _ _ c.if-before-at.true)

pub returns : goal.returns
returns c =
    let last_in : in_range ((record_of c.args.before_id c.args.before_direction c.args.before_len)) ≡ true =
    sym c.in_range.ensures ∙ not-false c.in_range.result c.if-not-in_range.false-raw
    in
    let this_in : in_range ((record_of c.args.id c.args.direction c.args.len)) ≡ true =
    sym c.in_range-2.ensures ∙ not-false c.in_range-2.result c.if-not-in_range-2.false-raw
    in
    c.step_fault-2.ensures ∙ both_in ((graph_of c.args.nodes.now [] c.args.links.now c.args.d)) ((eqb c.args.before c.args.at)) ((record_of c.args.before_id c.args.before_direction c.args.before_len)) ((record_of c.args.id c.args.direction c.args.len)) c.pack-last.result c.pack-node.result c.pack-last.ensures c.pack-node.ensures (last_in) (this_in) false (ne_eqb _ _ c.if-before-at.false)
