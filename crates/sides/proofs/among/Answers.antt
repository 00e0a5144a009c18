use mathlib.Core.Path.{sym, ◌∙◌}
use mathlib.Core.Bool.{and-true}
use borrow.Author.Tests.{not-true, not-false}
use Rattle.handle.specs.Edge.{edge}
use Rattle.store.specs.Views.{live_linked}
use Rattle.sides.specs.Sides.{bare}
use Rattle.sides.proofs.among.Goals as goal

pub returns-then-not-given : goal.returns-then-not-given
returns-then-not-given c = rw (not-true c.args.given c.if-not-given.true-raw)

pub returns-else-not-given : goal.returns-else-not-given
returns-else-not-given c =
    let a = c.args in
    rw (not-false a.given c.if-not-given.false-raw) (c.live_linked.ensures ∙ sym (and-true (live_linked (bare a.nodes.now a.links.now a.c) (edge a.w a.v))))
