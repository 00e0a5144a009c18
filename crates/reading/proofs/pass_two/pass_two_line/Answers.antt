use mathlib.Core.Path.{sym, ◌∙◌}
use Rattle.reading.proofs.Lines.{two_faulty, two-other, two-link}
use Rattle.reading.proofs.pass_two.pass_two_line.Goals as goal

pub returns-then-not-said_stored-clause-on_links : goal.returns-then-not-said_stored-clause-on_links
returns-then-not-said_stored-clause-on_links c =
    λ letters l g h. two_faulty h c.args.line.now c.said_stored.ensures c.if-not-said_stored.true

pub returns-then-not-is_line-clause-on_links : goal.returns-then-not-is_line-clause-on_links
returns-then-not-is_line-clause-on_links c =
    λ letters l g h.
    two-other h c.args.line.now c.said_stored.ensures c.if-not-said_stored.false (sym c.is_line.ensures ∙ c.if-not-is_line.true)

pub returns-clause-on_links : goal.returns-clause-on_links
returns-clause-on_links c =
    λ letters l g h.
    two-link h c.args.line.now c.said_stored.ensures c.if-not-said_stored.false (sym c.is_line.ensures ∙ c.if-not-is_line.false)
    c.edge_of-e.ensures
    (c.add_link.ensures.by_index c.args.nodes.now letters l g h)
