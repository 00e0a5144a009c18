use mathlib.Core.Path.{sym, ◌∙◌}
use native.Mathlib.Omega.{arith}
use borrow.Author.Tests.{lt-ltb, le-ltb}
use lib.ListN.{drop_of_length-le}
use Rattle.kit.proofs.Steps.{any_hit, any_miss, any_end}
use Rattle.cases.specs.Faults.{above_byte}
use Rattle.cases.proofs.Tests.{bytes_bad, bytes-fine}
use Rattle.cases.proofs.Items.{kinds_more}
use Rattle.cases.proofs.faults.byte_fault.Goals as goal

pub returns-then-elements-i-gt255 : goal.returns-then-elements-i-gt255
returns-then-elements-i-gt255 c =
    let xs = c.args.elements.now in
    let more = kinds_more xs c.loop-i.i (omega arith) in
    bytes_bad xs (sym (sym (any_hit above_byte more (lt-ltb 255 _ c.if-elements-i-gt255.true)) ∙ c.loop-i.invariant))

pub loop-i-preserved : goal.loop-i-preserved
loop-i-preserved c =
    let xs = c.args.elements.now in
    let more = kinds_more xs c.loop-i.i (omega arith) in
    sym (any_miss above_byte more (le-ltb 255 _ c.if-elements-i-gt255.false)) ∙ c.loop-i.invariant

pub returns : goal.returns
returns c =
    let xs = c.args.elements.now in
    bytes-fine xs (sym c.loop-i.invariant ∙ any_end above_byte (drop_of_length-le xs {i = c.loop-i.i} (omega arith)))
