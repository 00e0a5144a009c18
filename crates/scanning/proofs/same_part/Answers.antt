use mathlib.Core.Path.{sym, ap₂, ◌∙◌}
use native.Mathlib.Omega.{arith}
use borrow.Author.Tests.{not-true, not-false}
use Rattle.letters.specs.Letters.{same_letter}
use Rattle.affix.specs.Reading.{read}
use Rattle.affix.proofs.LookedUp.{length-read}
use Rattle.scanning.proofs.RuleTurns.{part_hit, part_miss, part-done}
use Rattle.scanning.proofs.same_part.Goals as goal

pub returns-then-not-same_letter : goal.returns-then-not-same_letter
returns-then-not-same_letter c =
    let a = c.args in
    let p = length-read a.old_text.now a.r (omega arith) in
    let q = length-read a.text.now a.s (omega arith) in
    let e = ap₂ same_letter (sym c.letter-a.ensures) (sym c.letter.ensures) ∙ sym c.same_letter.ensures ∙ not-true c.same_letter.result c.if-not-same_letter.true-raw in
    sym (part_miss (read a.old_text.now a.r) (read a.text.now a.s) a.off a.s.len c.loop-k.k (omega arith) q (omega arith) e) ∙ c.loop-k.invariant

pub loop-k-preserved : goal.loop-k-preserved
loop-k-preserved c =
    let a = c.args in
    let p = length-read a.old_text.now a.r (omega arith) in
    let q = length-read a.text.now a.s (omega arith) in
    let e = ap₂ same_letter (sym c.letter-a.ensures) (sym c.letter.ensures) ∙ sym c.same_letter.ensures ∙ not-false c.same_letter.result c.if-not-same_letter.false-raw in
    sym (part_hit (read a.old_text.now a.r) (read a.text.now a.s) a.off a.s.len c.loop-k.k (omega arith) q (omega arith) e) ∙ c.loop-k.invariant

pub returns : goal.returns
returns c =
    let a = c.args in
    let p = length-read a.old_text.now a.r (omega arith) in
    let q = length-read a.text.now a.s (omega arith) in
    sym (part-done (read a.old_text.now a.r) (read a.text.now a.s) a.off a.s.len c.loop-k.k (omega arith) q (omega arith)) ∙ c.loop-k.invariant
