use mathlib.Core.Path.{◌≡◌, sym, ap, ◌∙◌}
use Rattle.std.specs.Option.{is_some}
use Rattle.handle.specs.Edge.{edge}
use Rattle.store.specs.Graph.{links_of}
use Rattle.store.specs.Views.{linked}
use Rattle.reading.proofs.Found.{link_there}
use Rattle.reading.proofs.More.{link_again}
use Rattle.reading.proofs.add.add_link.Goals as goal

pub returns-then-is_some-clause-by_index : goal.returns-then-is_some-clause-by_index
returns-then-is_some-clause-by_index c =
    let a = c.args in
    let e = edge a.u a.v in
    let rs = links_of a.c.links a.links.now in
    let there : c.is_some.result ≡ linked e rs = c.is_some.ensures ∙ ap is_some c.find_link.ensures ∙ link_there e rs in
    λ nodes letters l g h. link_again h e (sym there ∙ c.if-is_some.true)

pub append_link-requires-clause-links_value : goal.append_link-requires-clause-links_value
append_link-requires-clause-links_value c =
    let a = c.args in
    let e = edge a.u a.v in
    let rs = links_of a.c.links a.links.now in
    let there : c.is_some.result ≡ linked e rs = c.is_some.ensures ∙ ap is_some c.find_link.ensures ∙ link_there e rs in
    sym there ∙ c.if-is_some.false
