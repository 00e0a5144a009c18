use mathlib.Core.Path.{◌≡◌, sym, ◌∙◌}
use mathlib.Core.Bool.{true}
use borrow.Author.Tests.{le-leb, lt-leb, not-true, not-false}
use Rattle.kit.proofs.Bools.{and_both}
use Rattle.formed.specs.WellFormed.{well_formed}
use Rattle.records.specs.Records.{input_formed}
use Rattle.records.proofs.Scan.{not_formed, id-twice, all_once, rooms}
use Rattle.records.proofs.check_steps.input_fault.Goals as goal

pub returns-then-not-well_formed : goal.returns-then-not-well_formed
returns-then-not-well_formed c =
    let a = c.args in
    c.fault.ensures
    ∙ not_formed a.nodes.now a.text.now a.links.now a.d a.count (rw (sym c.well_formed-2.ensures ∙ not-true _ c.if-not-well_formed.true-raw))

pub returns-then-count-gt262144 : goal.returns-then-count-gt262144
returns-then-count-gt262144 c =
    let graph_formed : well_formed c.args.nodes.now c.args.text.now c.args.links.now c.args.d ≡ true =
    sym c.well_formed-2.ensures ∙ not-false _ c.if-not-well_formed.false-raw
    in
    let a = c.args in
    c.fault-then-count-gt262144.ensures
    ∙ not_formed a.nodes.now a.text.now a.links.now a.d a.count (rw (graph_formed, lt-leb a.count 262144 c.if-count-gt262144.true))

pub ids_once-requires : goal.ids_once-requires
ids_once-requires c =
    let graph_formed : well_formed c.args.nodes.now c.args.text.now c.args.links.now c.args.d ≡ true =
    sym c.well_formed-2.ensures ∙ not-false _ c.if-not-well_formed.false-raw
    in
    let is_formed : input_formed c.args.nodes.now c.args.text.now c.args.links.now c.args.d c.args.count ≡ true =
    and_both _ _ (graph_formed) (le-leb _ 262144 c.if-count-gt262144.false)
    in
    let a = c.args in
    (rooms a.nodes.now a.text.now a.links.now a.d a.count (is_formed)).0

pub returns-then-not-ids_once : goal.returns-then-not-ids_once
returns-then-not-ids_once c =
    let graph_formed : well_formed c.args.nodes.now c.args.text.now c.args.links.now c.args.d ≡ true =
    sym c.well_formed-2.ensures ∙ not-false _ c.if-not-well_formed.false-raw
    in
    let is_formed : input_formed c.args.nodes.now c.args.text.now c.args.links.now c.args.d c.args.count ≡ true =
    and_both _ _ (graph_formed) (le-leb _ 262144 c.if-count-gt262144.false)
    in
    let a = c.args in
    c.fault-then-not-ids_once.ensures
    ∙ id-twice a.nodes.now a.text.now a.links.now a.d a.count (is_formed) (sym c.ids_once.ensures ∙ not-true _ c.if-not-ids_once.true-raw)

pub returns : goal.returns
returns c =
    let graph_formed : well_formed c.args.nodes.now c.args.text.now c.args.links.now c.args.d ≡ true =
    sym c.well_formed-2.ensures ∙ not-false _ c.if-not-well_formed.false-raw
    in
    let is_formed : input_formed c.args.nodes.now c.args.text.now c.args.links.now c.args.d c.args.count ≡ true =
    and_both _ _ (graph_formed) (le-leb _ 262144 c.if-count-gt262144.false)
    in
    let a = c.args in
    c.fault-2.ensures
    ∙ all_once a.nodes.now a.text.now a.links.now a.d a.count (is_formed) (sym c.ids_once.ensures ∙ not-false _ c.if-not-ids_once.false-raw)
