use mathlib.Core.Path.{ap, sym}
use native.Mathlib.Omega.{arith}
use borrow.Author.Rules.{rules}
use borrow.Author.Tests.{le-leb, lt-leb}
use lib.ListN.{length, drop}
use Rattle.text.specs.Pieces.{fields_of}
use Rattle.text.proofs.Cuts.{piece_last, piece_more, pieces_some}
use Rattle.text.proofs.pieces.has_fields.Goals as goal

pub returns-then-to-line : goal.returns-then-to-line
returns-then-to-line c =
    let one = ap length (piece_last c.piece_end-to.ensures c.if-to-line.true) in
    sym (lt-leb c.args.n (length (fields_of c.args.line.now)) (omega (arith, one, c.loop.invariant.1)))

pub loop-preserved : goal.loop-preserved
loop-preserved c =
    let more = ap length (piece_more c.piece_end-to.ensures c.if-to-line.false) in
    (search rules, omega (arith, more, c.loop.invariant.1))

pub returns : goal.returns
returns c =
    let some = pieces_some 9 (drop c.loop.from c.args.line.now) in
    sym (le-leb c.args.n (length (fields_of c.args.line.now)) (omega (arith, some, c.loop.invariant.1)))
