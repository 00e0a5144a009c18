use mathlib.Core.Path.{sym, ap₂, ◌∙◌}
use native.Mathlib.Omega.{arith}
use borrow.Author.Tests.{not-true, not-false}
use Rattle.letters.specs.Letters.{same_letter}
use Rattle.affix.specs.Reading.{read}
use Rattle.affix.proofs.LookedUp.{length-read}
use Rattle.affix.proofs.Runs.{agree-more, agree_stop, agree_short, agree_end}
use Rattle.affix.proofs.same_run.Goals as goal

pub returns-then-len-i : goal.returns-then-len-i
returns-then-len-i c =
    let a = c.args in
    let s = read a.text.now a.r in
    let t = read a.text.now a.s in
    let q = length-read a.text.now a.s (omega arith) in
    omega (arith, agree_short a.bound s t c.loop-i.i (omega arith))

pub returns-then-not-same_letter : goal.returns-then-not-same_letter
returns-then-not-same_letter c =
    let a = c.args in
    let s = read a.text.now a.r in
    let t = read a.text.now a.s in
    let p = length-read a.text.now a.r (omega arith) in
    let q = length-read a.text.now a.s (omega arith) in
    let e = ap₂ same_letter (sym c.letter.ensures) (sym c.letter-in-loop-i.ensures) ∙ sym c.same_letter.ensures ∙ not-true c.same_letter.result c.if-not-same_letter.true-raw in
    omega (arith, agree_stop a.bound s t c.loop-i.i (omega arith) (omega arith) (omega arith) e)

pub loop-i-preserved : goal.loop-i-preserved
loop-i-preserved c =
    let a = c.args in
    let s = read a.text.now a.r in
    let t = read a.text.now a.s in
    let p = length-read a.text.now a.r (omega arith) in
    let q = length-read a.text.now a.s (omega arith) in
    let e = ap₂ same_letter (sym c.letter.ensures) (sym c.letter-in-loop-i.ensures) ∙ sym c.same_letter.ensures ∙ not-false c.same_letter.result c.if-not-same_letter.false-raw in
    omega (arith, agree-more a.bound s t c.loop-i.i (omega arith) (omega arith) (omega arith) e)

pub returns : goal.returns
returns c =
    let a = c.args in
    omega (arith, agree_end a.bound (read a.text.now a.r) (read a.text.now a.s) c.loop-i.i (omega arith))
