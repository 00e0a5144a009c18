use mathlib.Core.Path.{sym, ◌∙◌}
use native.Mathlib.Omega.{arith}
use Rattle.handle.specs.Edge.{edge}
use Rattle.store.specs.Graph.{links_of}
use Rattle.store.proofs.Lookups.{link-found, link_nowhere}
use Rattle.linking.proofs.Fitting.{made, starts}
use Rattle.linking.proofs.add_link.Goals as goal

pub returns-in_default : goal.returns-in_default
returns-in_default c =
    let a = c.args in
    rw (link_nowhere (edge a.x a.y) (links_of a.count a.links.now) (sym c.find_link.ensures ∙ c.in_default.is)) c.append_link.ensures

pub returns : goal.returns
returns c =
    let a = c.args in
    rw (link-found a.count a.links.now (edge a.x a.y) c.in-Some.field-0 (sym c.find_link.ensures ∙ c.in-Some.is)).is_linked (made (starts a.count a.links.now (omega arith)))
