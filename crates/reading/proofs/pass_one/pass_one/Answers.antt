use Prim.Native.Nat.{◌*◌, ◌≤◌}
use mathlib.Core.Path.{refl}
use native.Mathlib.Omega.{arith}
use lib.ListN.{length}
use Rattle.std.proofs.lemmas.Result.{IfOk-at_ok, err_from_is_err_and}
use Rattle.text.proofs.Cuts.{piece_last, piece_more}
use Rattle.reading.proofs.Turns.{pass_refused, pass-ended, pass_goes_on}
use Rattle.reading.proofs.pass_one.pass_one.Goals as goal

pub returns-in_err-used : goal.returns-in_err-used
returns-in_err-used c =
    let p = err_from_is_err_and c.from_residual.result c.from_residual.ensures.1 in
    λ links l g h.
    let t = c.loop-used.invariant.turn links l g h in
    rw (p.1, p.2)
    (pass_refused t c.next_line-end.ensures.cut (c.pass_one_line.ensures.on_segments links l t.graph t.held) c.in_err-used.was)

pub returns-then-end-text : goal.returns-then-end-text
returns-then-end-text c =
    λ links l g h.
    let t = c.loop-used.invariant.turn links l g h in
    pass-ended t (piece_last c.next_line-end.ensures c.if-end-text.true) (c.pass_one_line.ensures.on_segments links l t.graph t.held) c.in_ok-used.was refl

pub loop-used-preserved : goal.loop-used-preserved
loop-used-preserved c =
    let room = IfOk-at_ok (λ n. (4 * n.nodes ≤ length c.pass_one_line.new.nodes) × (n.letters ≤ length c.pass_one_line.new.letters)) c.in_ok-used.was c.pass_one_line.ensures.ok in
    record {
      bound = omega (arith, c.next_line-end.ensures.high, c.if-end-text.false);
      nodes_size = omega (arith, c.loop-used.invariant.nodes_size);
      letters_size = omega (arith, c.loop-used.invariant.letters_size);
      node_room = room.0;
      letter_room = room.1;
      turn =
          λ links l g h.
          let t = c.loop-used.invariant.turn links l g h in
          pass_goes_on t (piece_more c.next_line-end.ensures c.if-end-text.false) (c.pass_one_line.ensures.on_segments links l t.graph t.held) c.in_ok-used.was;
    }
