use mathlib.Core.Path.{◌≡◌, refl, ap, ◌∙◌}
use mathlib.Core.Bool.{Bool, true, false, cond}
use mir.Val.{bool_byte}
use Rattle.request.proofs.Turns.{next_word, count_next}
use borrow.Author.Rules.{rules}
use Rattle.request.proofs.ask.count.Goals as goal

bit : (b : Bool) → bool_byte b ≡ cond b 1 0
bit true = refl
bit false = refl

pub loop-sought-preserved : goal.loop-sought-preserved
loop-sought-preserved g c =
    let a = c.args in
    let more = next_word c.piece_end-end.ensures c.if-end-words.false in
    (search rules, search rules, count_next c.into-sought.result c.loop-sought.wanted _ c.loop-sought.n more c.loop-sought.invariant.2 c.role_of-this.ensures _ (c.from-n.ensures ∙ bit _ ∙ ap (λ (b : Bool). cond b 1 0) c.same_role.ensures) _ c.wanted_after-wanted.ensures)
