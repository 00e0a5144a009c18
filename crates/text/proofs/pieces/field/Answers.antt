use Prim.Native.Nat.{◌+◌, ◌-◌}
use mathlib.Core.Path.{◌≡◌, sym, ◌∙◌}
use native.Mathlib.Omega.{arith}
use borrow.Author.Rules.{rules}
use lib.ListN.{length}
use Rattle.text.proofs.Cuts.{nth_here, no_nth, nth_later}
use Rattle.text.proofs.pieces.field.Goals as goal

pub returns-then-to-line : goal.returns-then-to-line
returns-then-to-line c =
    let line = c.args.line.now in
    let z : length line - c.piece_end-to.result ≡ 0 = omega arith in
    rw (z, ← c.loop.invariant.1, no_nth c.piece_end-to.ensures (c.args.k - c.loop.counter) (omega arith) c.if-to-line.true)

pub loop-preserved : goal.loop-preserved
loop-preserved c =
    let line = c.args.line.now in
    let z : c.args.k - (c.loop.counter + 1) ≡ (c.args.k - c.loop.counter) - 1 = omega arith in
    (search rules, rw z (sym (nth_later c.piece_end-to.ensures (c.args.k - c.loop.counter) (omega arith) c.if-to-line.false) ∙ c.loop.invariant.1))

pub returns : goal.returns
returns c = sym (nth_here c.piece_end-to-2.ensures (c.args.k - c.loop.counter) (omega arith)) ∙ c.loop.invariant.1
