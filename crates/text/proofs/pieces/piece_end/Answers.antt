use native.Mathlib.Omega.{arith}
use borrow.Author.Rules.{rules}
use Rattle.text.proofs.Cuts.{piece_hit, piece_miss, piece_none}
use Rattle.text.proofs.pieces.piece_end.Goals as goal

pub loop-i-init : goal.loop-i-init
loop-i-init c = (search rules, λ r p. p)

pub returns-then-bytes-i : goal.returns-then-bytes-i
returns-then-bytes-i c =
    let a = c.args in
    c.loop-i.invariant.1 _ (piece_hit a.sep a.bytes.now c.loop-i.i (omega arith) c.if-bytes-i.true)

pub loop-i-preserved : goal.loop-i-preserved
loop-i-preserved c =
    let a = c.args in
    (search rules, λ r p. c.loop-i.invariant.1 r (piece_miss a.sep a.bytes.now c.loop-i.i (omega arith) c.if-bytes-i.false r p))

pub returns : goal.returns
returns c =
    let a = c.args in
    c.loop-i.invariant.1 _ (piece_none a.sep a.bytes.now c.loop-i.i (omega arith))
