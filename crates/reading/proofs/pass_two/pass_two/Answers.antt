use Prim.Native.Nat.{◌*◌, ◌≤◌}
use mathlib.Core.Path.{◌≡◌, refl, ◌∙◌}
use native.Mathlib.Omega.{arith}
use lib.ListN.{length}
use Rattle.std.proofs.lemmas.Result.{IfOk-at_ok, err_from_is_err_and}
use Rattle.text.proofs.Cuts.{piece_last, piece_more}
use Rattle.reading.proofs.Turns.{pass_refused, pass-ended, pass_goes_on}
use Rattle.reading.proofs.pass_two.pass_two.Goals as goal

pub returns-in_err-used : goal.returns-in_err-used
returns-in_err-used c =
    let p = err_from_is_err_and c.from_residual.result c.from_residual.ensures.1 in
    λ letters l g h.
    let t = c.loop-used.invariant.turn letters l g h in
    rw (p.1, p.2)
    (pass_refused t c.next_line-end.ensures.cut (c.pass_two_line.ensures.on_links letters l t.graph t.held) c.in_err-used.was)

pub returns-then-end-text : goal.returns-then-end-text
returns-then-end-text c =
    λ letters l g h.
    let t = c.loop-used.invariant.turn letters l g h in
    pass-ended t (piece_last c.next_line-end.ensures c.if-end-text.true) (c.pass_two_line.ensures.on_links letters l t.graph t.held) c.in_ok-used.was refl

pub loop-used-preserved : goal.loop-used-preserved
loop-used-preserved c =
    let room = IfOk-at_ok (λ n. (n.nodes ≡ c.loop-used.used.nodes) × (3 * n.links ≤ length c.pass_two_line.new.links)) c.in_ok-used.was c.pass_two_line.ensures.ok in
    record {
      bound = omega (arith, c.next_line-end.ensures.high, c.if-end-text.false);
      links_size = omega (arith, c.loop-used.invariant.links_size);
      same_nodes = room.0 ∙ c.loop-used.invariant.same_nodes;
      link_room = room.1;
      turn =
          λ letters l g h.
          let t = c.loop-used.invariant.turn letters l g h in
          pass_goes_on t (piece_more c.next_line-end.ensures c.if-end-text.false) (c.pass_two_line.ensures.on_links letters l t.graph t.held) c.in_ok-used.was;
    }
