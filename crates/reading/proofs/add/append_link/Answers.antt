use Rattle.handle.specs.Edge.{edge}
use Rattle.reading.proofs.More.{link_full, link-stored}
use Rattle.reading.proofs.add.append_link.Goals as goal

pub returns-then-not-link_fits-clause-by_index : goal.returns-then-not-link_fits-clause-by_index
returns-then-not-link_fits-clause-by_index c =
    let a = c.args in
    λ nodes letters l g h. link_full h (edge a.u a.v) c.requires.links_value c.link_fits.ensures c.if-not-link_fits.true

pub returns-clause-by_index : goal.returns-clause-by_index
returns-clause-by_index c =
    let a = c.args in
    λ nodes letters l g h. link-stored h (edge a.u a.v) c.requires.links_value c.link_fits.ensures c.if-not-link_fits.false c.written-w.ensures c.push_link.ensures
