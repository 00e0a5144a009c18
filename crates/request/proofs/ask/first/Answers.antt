use Prim.Native.Nat.{◌-◌}
use mathlib.Core.Path.{◌≡◌, refl, sym, ◌∙◌}
use native.Mathlib.Omega.{arith}
use lib.ListN.{length}
use Rattle.request.proofs.Turns.{no_word, next_word, first_none, first-here, first-later}
use borrow.Author.Rules.{rules}
use Rattle.request.proofs.ask.first.Goals as goal

pub loop-sought-init : goal.loop-sought-init
loop-sought-init g c = (search rules, refl)

pub returns-then-end-words : goal.returns-then-end-words
returns-then-end-words g c =
    let a = c.args in
    let z : length a.words.now - c.piece_end-end.result ≡ 0 = omega arith in
    (_, c.into-sought.ensures, rw z (first_none c.into-sought.result c.loop-sought.wanted (no_word c.piece_end-end.ensures c.if-end-words.true) c.loop-sought.invariant.1))

pub returns-then-same_role : goal.returns-then-same_role
returns-then-same_role g c =
    let a = c.args in
    (_, c.into-sought.ensures, first-here c.into-sought.result c.loop-sought.wanted _ (next_word c.piece_end-end.ensures c.if-end-words.false) c.loop-sought.invariant.1 c.role_of-this.ensures (sym c.same_role.ensures ∙ c.if-same_role.true))

pub loop-sought-preserved : goal.loop-sought-preserved
loop-sought-preserved g c =
    let a = c.args in
    let more = next_word c.piece_end-end.ensures c.if-end-words.false in
    (search rules, first-later c.into-sought.result c.loop-sought.wanted _ more c.loop-sought.invariant.1 c.role_of-this.ensures (sym c.same_role.ensures ∙ c.if-same_role.false) _ c.wanted_after-wanted.ensures)
