use Prim.Native.Nat.{◌+◌}
use mathlib.Core.Path.{◌≡◌, sym, ◌∙◌}
use mathlib.Core.Bool.{true}
use native.Mathlib.Omega.{arith}
use borrow.Author.Tests.{not-true, not-false}
use Rattle.collapsing.specs.Making.{fits}
use Rattle.collapsing.proofs.Before.{fits_few}
use Rattle.collapsing.proofs.room.lists_fit.Goals as goal

pub returns-then-not-fit : goal.returns-then-not-fit
returns-then-not-fit c = rw (sym c.fit.ensures ∙ not-true _ c.if-not-fit.true-raw)

pub returns-then-not-fit-2 : goal.returns-then-not-fit-2
returns-then-not-fit-2 c =
    let nodes_fit : fits 4 65536 (c.args.c.nodes + c.args.long) c.args.nodes ≡ true =
    sym c.fit.ensures ∙ not-false _ c.if-not-fit.false-raw
    in
    rw (nodes_fit, sym c.fit-2.ensures ∙ not-true _ c.if-not-fit-2.true-raw)

pub overflow_add-long : goal.overflow_add-long
overflow_add-long c =
    let nodes_fit : fits 4 65536 (c.args.c.nodes + c.args.long) c.args.nodes ≡ true =
    sym c.fit.ensures ∙ not-false _ c.if-not-fit.false-raw
    in
    let rules_fit : fits 4 65536 (c.args.u.rules + c.args.more) c.args.rules ≡ true =
    sym c.fit-2.ensures ∙ not-false _ c.if-not-fit-2.false-raw
    in
    let a = c.args in
    omega (arith, fits_few 4 65536 (a.c.nodes + a.long) a.nodes (nodes_fit), fits_few 4 65536 (a.u.rules + a.more) a.rules (rules_fit))

pub returns : goal.returns
returns c =
    let nodes_fit : fits 4 65536 (c.args.c.nodes + c.args.long) c.args.nodes ≡ true =
    sym c.fit.ensures ∙ not-false _ c.if-not-fit.false-raw
    in
    let rules_fit : fits 4 65536 (c.args.u.rules + c.args.more) c.args.rules ≡ true =
    sym c.fit-2.ensures ∙ not-false _ c.if-not-fit-2.false-raw
    in
    rw (nodes_fit, rules_fit, c.fit-3.ensures)
