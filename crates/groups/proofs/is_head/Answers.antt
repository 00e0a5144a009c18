use Prim.Native.Nat.{ℕ}
use mathlib.Core.Path.{ap, ◌∙◌}
use lib.Dec.{eqb}
use Rattle.kit.proofs.Bools.{eqb_sym}
use Rattle.groups.proofs.Along.{first_met_lem}
use Rattle.groups.proofs.is_head.Goals as goal

pub returns-in_default : goal.returns-in_default
returns-in_default c =
    let a = c.args in
    eqb_sym a.u.packed 0
    ∙ ap (λ (n : ℕ). eqb n a.u.packed) (c.in_default.ensures.value ∙ first_met_lem a.nodes.now a.text.now a.links.now a.c c.requires a.v a.u)

pub returns : goal.returns
returns c =
    let a = c.args in
    c.eq.ensures
    ∙ ap (λ (n : ℕ). eqb n a.u.packed) (c.in-Some.ensures.value ∙ first_met_lem a.nodes.now a.text.now a.links.now a.c c.requires a.v a.u)
