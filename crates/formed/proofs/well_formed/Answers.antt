use mathlib.Core.Bool.{true}
use mathlib.Core.Path.{◌≡◌, sym, ◌∙◌}
use borrow.Author.Tests.{not-true, not-false}
use lib.Seq.{length-take-le}
use Rattle.formed.proofs.Says.{Room, room_says}
use Rattle.formed.specs.WellFormed.{room_for}
use Rattle.formed.proofs.well_formed.Goals as goal

pub returns-then-not-room_for : goal.returns-then-not-room_for
returns-then-not-room_for c = rw (sym c.room_for.ensures ∙ not-true _ c.if-not-room_for.true-raw)

pub slice_bounds-good_nodes-end : goal.slice_bounds-good_nodes-end
slice_bounds-good_nodes-end c =
    let passed : room_for c.args.nodes.now c.args.text.now c.args.links.now c.args.c ≡ true =
    sym c.room_for.ensures ∙ not-false _ c.if-not-room_for.false-raw
    in
    let room : Room c.args.nodes.now c.args.text.now c.args.links.now c.args.c =
    let a = c.args in room_says a.nodes.now a.text.now a.links.now a.c (passed)
    in
    let a = c.args in sym (length-take-le a.c.letters a.text.now (room).letter_room)

pub good_nodes-requires : goal.good_nodes-requires
good_nodes-requires c =
    let passed : room_for c.args.nodes.now c.args.text.now c.args.links.now c.args.c ≡ true =
    sym c.room_for.ensures ∙ not-false _ c.if-not-room_for.false-raw
    in
    let room : Room c.args.nodes.now c.args.text.now c.args.links.now c.args.c =
    let a = c.args in room_says a.nodes.now a.text.now a.links.now a.c (passed)
    in
    (room).node_room

pub returns-then-not-good_nodes : goal.returns-then-not-good_nodes
returns-then-not-good_nodes c =
    let passed : room_for c.args.nodes.now c.args.text.now c.args.links.now c.args.c ≡ true =
    sym c.room_for.ensures ∙ not-false _ c.if-not-room_for.false-raw
    in
    rw (passed, sym c.good_nodes.ensures ∙ not-true _ c.if-not-good_nodes.true-raw)

pub good_links-requires : goal.good_links-requires
good_links-requires c =
    let passed : room_for c.args.nodes.now c.args.text.now c.args.links.now c.args.c ≡ true =
    sym c.room_for.ensures ∙ not-false _ c.if-not-room_for.false-raw
    in
    let room : Room c.args.nodes.now c.args.text.now c.args.links.now c.args.c =
    let a = c.args in room_says a.nodes.now a.text.now a.links.now a.c (passed)
    in
    let r = room in (r.node_room, r.link_room)

pub returns-then-not-good_links : goal.returns-then-not-good_links
returns-then-not-good_links c =
    let passed : room_for c.args.nodes.now c.args.text.now c.args.links.now c.args.c ≡ true =
    sym c.room_for.ensures ∙ not-false _ c.if-not-room_for.false-raw
    in
    rw (passed, sym c.good_nodes.ensures ∙ not-false _ c.if-not-good_nodes.false-raw, sym c.good_links.ensures ∙ not-true _ c.if-not-good_links.true-raw)

pub links_once-requires : goal.links_once-requires
links_once-requires c =
    let passed : room_for c.args.nodes.now c.args.text.now c.args.links.now c.args.c ≡ true =
    sym c.room_for.ensures ∙ not-false _ c.if-not-room_for.false-raw
    in
    let room : Room c.args.nodes.now c.args.text.now c.args.links.now c.args.c =
    let a = c.args in room_says a.nodes.now a.text.now a.links.now a.c (passed)
    in
    (room).link_room

pub returns : goal.returns
returns c =
    let passed : room_for c.args.nodes.now c.args.text.now c.args.links.now c.args.c ≡ true =
    sym c.room_for.ensures ∙ not-false _ c.if-not-room_for.false-raw
    in
    rw (passed, sym c.good_nodes.ensures ∙ not-false _ c.if-not-good_nodes.false-raw, sym c.good_links.ensures ∙ not-false _ c.if-not-good_links.false-raw)
    c.links_once.ensures
