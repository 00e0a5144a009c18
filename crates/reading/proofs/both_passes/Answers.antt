use Rattle.std.proofs.lemmas.Result.{err_from_is_err_and}
use Rattle.text.specs.Pieces.{lines_of}
use Rattle.reading.specs.Reading.{store, pass_two_line, empty}
use Rattle.reading.proofs.Holding.{held_none, node_room, link_room_lem}
use Rattle.reading.proofs.Turns.{one-refused, then-two}
use Rattle.reading.proofs.both_passes.Goals as goal

pub returns-in_err-pass_one : goal.returns-in_err-pass_one
returns-in_err-pass_one c =
    let a = c.args in
    let l = store a.nodes.now a.letters.now a.links.now in
    let w = c.pass_one.ensures a.links.now l empty (held_none a.nodes.now a.letters.now a.links.now) in
    let p = err_from_is_err_and c.from_residual.result c.from_residual.ensures.1 in
    rw (p.1, p.2, ← c.in_err-pass_one.was) (one-refused (pass_two_line l) (lines_of a.text.now) w c.in_err-pass_one.was)

pub pass_two-requires : goal.pass_two-requires
pass_two-requires c =
    let a = c.args in
    let l = store a.nodes.now a.letters.now a.links.now in
    let w = c.pass_one.ensures a.links.now l empty (held_none a.nodes.now a.letters.now a.links.now) in
    (node_room w.held, link_room_lem w.held)

pub returns : goal.returns
returns c =
    let a = c.args in
    let l = store a.nodes.now a.letters.now a.links.now in
    let w = c.pass_one.ensures a.links.now l empty (held_none a.nodes.now a.letters.now a.links.now) in
    then-two (pass_two_line l) (lines_of a.text.now) w c.in_ok-pass_one.was (c.pass_two.ensures _ l _ w.held)
