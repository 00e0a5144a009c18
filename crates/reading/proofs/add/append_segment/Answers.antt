use Rattle.reading.proofs.More.{segment_full, segment_stored}
use Rattle.reading.proofs.add.append_segment.Goals as goal

pub returns-then-not-segment_fits-clause-on_segments : goal.returns-then-not-segment_fits-clause-on_segments
returns-then-not-segment_fits-clause-on_segments c =
    let a = c.args in
    λ links l g h. segment_full h a.id a.s.now c.requires.nodes_value c.segment_fits.ensures c.if-not-segment_fits.true

pub returns-clause-on_segments : goal.returns-clause-on_segments
returns-clause-on_segments c =
    let a = c.args in
    let put = c.put_bytes-end.ensures in
    λ links l g h. segment_stored h a.id a.s.now c.requires.nodes_value c.segment_fits.ensures c.if-not-segment_fits.false c.push_node.ensures put.bytes put.place
