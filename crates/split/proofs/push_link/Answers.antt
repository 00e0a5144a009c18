use mathlib.Core.Path.{◌∙◌}
use native.Mathlib.Omega.{arith}
use native.Mathlib.Numerals.{add-one}
use Rattle.kit.proofs.Laws.{push}
use Rattle.handle.specs.Edge.{edge}
use Rattle.store.specs.Graph.{link, link_layout}
use Rattle.split.proofs.push_link.Goals as goal

pub returns : goal.returns
returns c =
    let a = c.args in
    c.put.ensures ∙ rw (add-one a.count) (push link_layout a.count a.links.now (link (edge a.from a.to) 0) (omega arith))
