use mathlib.Core.Path.{◌∙◌}
use native.Mathlib.Omega.{arith}
use Rattle.affix.proofs.LookedUp.{read_at}
use Rattle.affix.proofs.letter.Goals as goal

pub returns : goal.returns
returns c =
    let a = c.args in
    c.read_letter.ensures ∙ read_at a.text.now a.r (omega arith) a.i (omega arith)
