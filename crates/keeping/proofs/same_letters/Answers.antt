use mathlib.Core.Path.{sym, ap₂, ◌∙◌}
use native.Mathlib.Omega.{arith}
use borrow.Author.Tests.{not-true, not-false}
use Rattle.letters.specs.Letters.{same_letter}
use Rattle.affix.specs.Reading.{read}
use Rattle.affix.proofs.LookedUp.{length-read}
use Rattle.keeping.proofs.NodesKept.{letter_same, letter_other, letters_end, other_length}
use Rattle.keeping.proofs.same_letters.Goals as goal

pub returns-then-s-len : goal.returns-then-s-len
returns-then-s-len c =
    let a = c.args in
    let p = length-read a.oldtext.now a.r c.requires.0 in
    let q = length-read a.text.now a.s c.requires.1 in
    sym (other_length (read a.oldtext.now a.r) (read a.text.now a.s) (λ e. c.if-s-len.true (sym q ∙ sym e ∙ p)))

pub returns-then-not-same_letter : goal.returns-then-not-same_letter
returns-then-not-same_letter c =
    let a = c.args in
    let x = read a.oldtext.now a.r in
    let y = read a.text.now a.s in
    let p = length-read a.oldtext.now a.r c.requires.0 in
    let q = length-read a.text.now a.s c.requires.1 in
    let e = ap₂ same_letter (sym c.letter.ensures) (sym c.letter-in-loop-i.ensures) ∙ sym c.same_letter.ensures ∙ not-true c.same_letter.result c.if-not-same_letter.true-raw in
    sym (letter_other x y c.loop-i.i (omega arith) (omega arith) e) ∙ c.loop-i.invariant

pub loop-i-preserved : goal.loop-i-preserved
loop-i-preserved c =
    let a = c.args in
    let x = read a.oldtext.now a.r in
    let y = read a.text.now a.s in
    let p = length-read a.oldtext.now a.r c.requires.0 in
    let q = length-read a.text.now a.s c.requires.1 in
    let e = ap₂ same_letter (sym c.letter.ensures) (sym c.letter-in-loop-i.ensures) ∙ sym c.same_letter.ensures ∙ not-false c.same_letter.result c.if-not-same_letter.false-raw in
    sym (letter_same x y c.loop-i.i (omega arith) (omega arith) e) ∙ c.loop-i.invariant

pub returns : goal.returns
returns c =
    let a = c.args in
    let p = length-read a.oldtext.now a.r c.requires.0 in
    let q = length-read a.text.now a.s c.requires.1 in
    sym (letters_end (read a.oldtext.now a.r) (read a.text.now a.s) c.loop-i.i (omega arith) (omega arith)) ∙ c.loop-i.invariant
