use mathlib.Core.Path.{◌∙◌}
use native.Mathlib.Omega.{arith}
use native.Mathlib.Numerals.{add-one}
use Rattle.kit.proofs.Laws.{push}
use Rattle.handle.specs.Edge.{edge}
use Rattle.store.specs.Graph.{link, link_layout}
use Rattle.merging.proofs.copies.put_link.Goals as goal

pub returns : goal.returns
returns c =
    let a = c.args in
    c.put.ensures ∙ rw (add-one a.at) (push link_layout a.at a.plan.now (link (edge a.from a.to) a.mark) (omega arith))
