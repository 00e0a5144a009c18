use Prim.Native.Nat.{◌≤◌, ◌<◌}
use mathlib.Core.Path.{sym, ap, ◌∙◌}
use native.Mathlib.Omega.{arith}
use borrow.Author.Tests.{not-true, not-false}
use lib.ListN.{length, drop_of_length-le}
use Rattle.kit.proofs.Steps.{left_at}
use Rattle.letters.specs.Letters.{is_base}
use Rattle.affix.specs.Reading.{read}
use Rattle.affix.proofs.LookedUp.{length-read}
use Rattle.affix.proofs.Runs.{bases_more, bases_stop, bases_end}
use Rattle.affix.proofs.base_run.Goals as goal

pub returns-then-not-is_base : goal.returns-then-not-is_base
returns-then-not-is_base c =
    let a = c.args in
    let s = read a.text.now a.r in
    let k : c.loop-n.n < length s = omega (arith, length-read a.text.now a.r (omega arith)) in
    let e = ap is_base (sym c.letter.ensures) ∙ sym c.is_base.ensures ∙ not-true _ c.if-not-is_base.true-raw in
    omega (arith, bases_stop (left_at s c.loop-n.n 0 k) e)

pub loop-n-preserved : goal.loop-n-preserved
loop-n-preserved c =
    let a = c.args in
    let s = read a.text.now a.r in
    let k : c.loop-n.n < length s = omega (arith, length-read a.text.now a.r (omega arith)) in
    let e = ap is_base (sym c.letter.ensures) ∙ sym c.is_base.ensures ∙ not-false _ c.if-not-is_base.false-raw in
    omega (arith, bases_more (left_at s c.loop-n.n 0 k) e)

pub returns : goal.returns
returns c =
    let a = c.args in
    let s = read a.text.now a.r in
    let k : length s ≤ c.loop-n.n = omega (arith, length-read a.text.now a.r (omega arith)) in
    omega (arith, bases_end (drop_of_length-le s {i = c.loop-n.n} k))
